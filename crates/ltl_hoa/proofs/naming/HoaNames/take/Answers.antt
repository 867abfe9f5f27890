use Rattle.std.proofs.Common.{◌≡◌, ◌∙◌, ◌<◌, ap, arith, length, map, List, ℕ, Option, sym, subst}
use Rattle.std.proofs.lemmas.Result.{on_ok_weaker}
use Rattle.std.proofs.lemmas.List.{length-map}
use Rattle.ltl_spec.specs.Hoa.HoaNames.{HoaNames}
use Rattle.ltl_hoa.specs.NamingView.{bytes_of, kept, named}
use Rattle.ltl_hoa.specs.declared.naming.Owner.TheVariants.{NumberedState}
use Rattle.ltl_hoa.proofs.NamesReaderLaws.{kept_state}
use Rattle.ltl_hoa.proofs.naming.HoaNames.take.Goals as goal

pub returns-in-NumberedState : goal.returns-in-NumberedState
returns-in-NumberedState g c =
    let With : List (Option (List ℕ)) → HoaNames = λ names. record { automaton = bytes_of c.self.inside.automaton; states = names } in
    let within : c.in-NumberedState.i < length c.self.inside.states.items = omega (arith, c.if-i-len.true, c.len.ensures) in
    on_ok_weaker c.keep-in-NumberedState.result (λ e.
    ap With (kept_state bytes_of c.self.inside.states.items c.in-NumberedState.i c.index_mut.result.now c.keep-in-NumberedState.new.name c.args.text.now
    c.index_mut.ensures.value (subst (λ n. c.in-NumberedState.i < n) (sym (length-map c.self.inside.states.items bytes_of)) within) e)
    ∙ ap (named (NumberedState c.in-NumberedState.i) c.args.text.now) c.self.view_is
    ∙ ap (λ o. named o c.args.text.now c.args.self.now) (sym c.in-NumberedState.is)) c.keep-in-NumberedState.ensures
