use Rattle.std.proofs.Common.{◌≡◌, ◌∙◌, ◌<◌, ap, sym, subst, refl, arith, length, map, false, slice_index_or}
use Rattle.ltl_claim.specs.ProgramView.{StatementView, option_of}
use Rattle.ltl_claim.specs.ResolveView.{AreStates}
use Rattle.ltl_claim.proofs.StateLaws.{options_seen, states_more}
use Rattle.ltl_claim.proofs.resolve.Moves.states.Goals as goal

pub statements-preserved : goal.statements-preserved
statements-preserved g c = λ P p.
    let l : c.statements.i < length c.args.statements.now = let a = c.statements-test.true in let b = c.requires.marked in omega (arith, a, b) in
    states_more P c.args.self.now.names c.args.marks.now c.statements.i (slice_index_or c.args.marks.now c.statements.i false) c.in_ok-moves.moves.items c.statements.states.items c.push.new.self.items refl
    (c.in_ok-moves.ensures P p
    (options_seen P c.args.self.now.ways c.args.statements.now c.statements.i c.index-statements-i.result p c.requires.same c.index-statements-i.is l
    ∙ ap (λ (t : StatementView). map option_of t.options) (sym c.statement.view_is) ∙ ap (map option_of) (sym c.as_slice.ensures.value)))
    c.in_ok-push.ensures.items (c.statements.invariant P p)

pub returns : goal.returns
returns g c = λ P p.
    let n : c.statements.i ≡ length c.args.marks.now = let a = c.statements-test.false in let b = c.statements.auto.i-end in omega (arith, a, b) in
    subst (λ n. AreStates P c.args.self.now.names c.args.marks.now n c.statements.states.items) n (c.statements.invariant P p)
