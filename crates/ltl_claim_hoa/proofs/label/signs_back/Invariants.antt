use Rattle.std.proofs.Common.{◌≡◌, ◌+◌, ◌*◌, ◌≤◌, List, length}
use Rattle.std.specs.Prelude.{take}
use Rattle.ltl_spec.specs.Semantics.Word.{Name}
use Rattle.ltl_spec.specs.Claims.ClaimProgram.{Guard}
use Rattle.ltl_claim.specs.ClaimView.{steps_of}
use Rattle.ltl_claim_hoa.specs.LabelSigns.{StandsFor}
use Rattle.ltl_claim_hoa.proofs.label.signs_back.Given as goal

abbrev pub invariant-tasks : goal.invariant-tasks
invariant-tasks g l = record {
  inside : l.at ≤ length l.steps;
  stands : (names : List Name) (g : Guard) → l.steps ≡ steps_of names g → StandsFor names g l.tasks.items (take l.at l.steps) l.signs.items;
}

abbrev pub decreases-tasks : goal.decreases-tasks
decreases-tasks g l = 8 * l.at + length l.tasks.items
