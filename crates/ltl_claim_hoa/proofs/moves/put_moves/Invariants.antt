use Rattle.std.proofs.Common.{◌≡◌, ◌++◌, List}
use Rattle.std.specs.Prelude.{take, flat_map}
use Rattle.ltl_spec.specs.Semantics.Word.{Name}
use Rattle.ltl_claim.specs.ClaimView.{AreMoves}
use Rattle.ltl_claim_hoa.specs.ClaimHoa.{MoveList, move_line}
use Rattle.ltl_claim_hoa.proofs.moves.put_moves.Given as goal

abbrev pub invariant-moves : goal.invariant-moves
invariant-moves g l = (names : List Name) (ms : MoveList) → AreMoves names l.moves ms → l.text.items ≡ l.fn.text.items ++ flat_map (move_line names) (take l.i ms)
