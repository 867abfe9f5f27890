use Rattle.std.proofs.Common.{◌≡◌, ◌∙◌, ◌<◌, ℕ, ap, length, map, string_bytes, subst, sym, []}
use Rattle.std.specs.Prelude.{option_map}
use Rattle.std.specs.List.{list_any}
use Rattle.std.proofs.lemmas.List.{get_or-map}
use Rattle.ltl_spec.proofs.Collections.MemberLaws.{map_length}
use Rattle.ltl_hoa.specs.MarkedView.{edge_of}
use Rattle.ltl_streams.proofs.PrintLaws.{lacks_all, lacks_last, lacks_step}
use Rattle.ltl_pictures.specs.DotText.{state_text}
use Rattle.ltl_pictures.specs.Picked.{is_set}
use Rattle.ltl_pictures.specs.RunText.{RunPicture, is_picked, named_of, picks_in}
use Rattle.ltl_pictures.proofs.EdgeLaws.{state_named}
use Rattle.ltl_pictures.proofs.FlagLaws.{any_default}
use Rattle.ltl_pictures.proofs.RunLaws.{state_pieces}
use Rattle.ltl_pictures.proofs.run_drawing.RunDrawing.put_state.Goals as goal

pub put_arrows-requires-clause-order : goal.put_arrows-requires-clause-order
put_arrows-requires-clause-order g c =
    let A = c.self.inside.automaton in
    let d = c.self.invariant in
    let lt : c.args.k < A.states = subst (λ (x : RunPicture). c.args.k < x.automaton.states) (sym c.self.view_is) c.requires in
    let sorted = d.sorted.sorted c.args.k lt in
    let orders = c.self.inside.orders.items in
    let many = subst (λ n. c.args.k < n) (sym d.sorted.long ∙ map_length (λ p. p.items) orders) lt in
    let order = c.as_slice.ensures ∙ ap (λ p. p.items) c.index.ensures ∙ sym (get_or-map (λ p. p.items) orders c.args.k c.index.result.now [] many) in
    rw (order, c.edges-edges.ensures) sorted

pub put_arrows-requires-clause-named : goal.put_arrows-requires-clause-named
put_arrows-requires-clause-named g c =
    let A = c.self.inside.automaton in
    let lt : c.args.k < A.states = subst (λ (x : RunPicture). c.args.k < x.automaton.states) (sym c.self.view_is) c.requires in
    let count : length c.names.result.now ≡ length A.names = sym (map_length string_bytes c.names.result.now) ∙ ap length c.names.ensures in
    state_named A c.args.k (length c.names.result.now) (map edge_of c.edges-edges.result.now) c.invariant.ensures lt count c.edges-edges.ensures

pub returns : goal.returns
returns g c =
    let A = c.self.inside.automaton in
    let run = option_map (λ v. v.items) c.self.inside.run in
    let d = c.self.invariant in
    let lt : c.args.k < A.states = subst (λ (x : RunPicture). c.args.k < x.automaton.states) (sym c.self.view_is) c.requires in
    let flags = c.index-flags.ensures ∙ any_default c.self.inside.flags.items c.args.k c.index-flags.result.now [] (subst (λ n. c.args.k < n) (sym d.taken.long) lt) in
    let given = c.as_slice-2.ensures in
    let long = ap length (given ∙ flags) ∙ d.taken.rows c.args.k lt in
    let set : (p : ℕ) → is_set c.as_slice-2.result.now p ≡ is_picked (picks_in run) c.args.k p = λ p. ap (λ fs. is_set fs p) (given ∙ flags) ∙ d.taken.set c.args.k p lt in
    let e = ap (λ (x : RunPicture). state_text (named_of x) (is_picked (picks_in x.run)) c.args.k) (sym c.self.view_is)
    ∙ state_pieces (record { automaton = A; names = c.self.inside.names }) (is_picked (picks_in run)) c.args.k c.self.inside.by_states c.is_double-double.result c.is_one_set.result (map edge_of c.edges-edges.result.now) (map string_bytes c.names.result.now) _
    c.as_slice-2.result.now d.states c.edges-edges.ensures c.names.ensures c.state.ensures c.is_double-double.ensures (c.is_one_set.ensures ∙ ap (list_any (λ b. b)) (sym given)) long set in
    lacks_last (lacks_step (lacks_all _ _) _ e c.put_node.ensures) c.put_arrows.ensures
