use Rattle.std.proofs.Common.{arith, ap, sym, ◌∙◌}
use Rattle.ltl_claim.specs.ClaimView.{MoveView}
use Rattle.ltl_claim_hoa.proofs.TextLaws.{target_found, target_none, target_other}
use Rattle.ltl_claim_hoa.proofs.moves.lead_to.Goals as goal

pub returns-then-target : goal.returns-then-target
returns-then-target g c = λ names ms a.
    sym (target_found names c.args.moves.now ms a c.args.target c.moves.i c.index-moves-i.result c.target.result c.moves-test.true
    (c.target.ensures ∙ ap (λ (m : MoveView). m.target) c.index-moves-i.is) c.if-target.true (c.moves.invariant names ms a))

pub moves-preserved : goal.moves-preserved
moves-preserved g c = λ names ms a.
    target_other names c.args.moves.now ms a c.args.target c.moves.i c.index-moves-i.result c.target.result c.moves-test.true
    (c.target.ensures ∙ ap (λ (m : MoveView). m.target) c.index-moves-i.is) c.if-target.false (c.moves.invariant names ms a)

pub returns : goal.returns
returns g c = λ names ms a. sym (target_none names c.args.moves.now ms a c.args.target c.moves.i (omega arith) (c.moves.invariant names ms a))
