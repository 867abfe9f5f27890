use Rattle.std.proofs.Common.{◌≡◌, List, false}
use Rattle.std.specs.Prelude.{take, nat_eq}
use Rattle.std.specs.List.{list_any}
use Rattle.ltl_spec.specs.Semantics.Word.{Name}
use Rattle.ltl_claim.specs.ClaimView.{AreMoves}
use Rattle.ltl_claim_hoa.specs.ClaimHoa.{MoveList}
use Rattle.ltl_claim_hoa.proofs.moves.lead_to.Given as goal

abbrev pub invariant-moves : goal.invariant-moves
invariant-moves g l = (names : List Name) (ms : MoveList) → AreMoves names l.moves ms → list_any (λ m. nat_eq m.1 l.target) (take l.i ms) ≡ false
