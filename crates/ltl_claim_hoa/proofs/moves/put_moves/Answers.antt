use Rattle.std.proofs.Common.{arith, subst, sym}
use Rattle.ltl_claim.specs.ClaimView.{IsMove}
use Rattle.ltl_claim_hoa.proofs.TextLaws.{moves_all, moves_more}
use Rattle.ltl_claim_hoa.proofs.moves.put_moves.Goals as goal

pub moves-preserved : goal.moves-preserved
moves-preserved g c = λ names ms a.
    moves_more names c.args.moves.now ms c.moves.i c.index-moves-i.result _ _ _ a c.moves-test.true (c.moves.invariant names ms a)
    (λ m is. c.in_ok-put_move.ensures names m (subst (λ v. IsMove names v m) (sym c.index-moves-i.is) is))

pub returns : goal.returns
returns g c = λ names ms a. moves_all names c.args.moves.now ms c.moves.i _ _ a (omega arith) (c.moves.invariant names ms a)
