use Rattle.std.proofs.Common.{◌≡◌, ℕ, length}
use Rattle.ltl_passes.specs.Worklist.{LeadsWithin}
use Rattle.ltl_passes.proofs.classes.rings.Given as goal

abbrev pub invariant-loop-state : goal.invariant-loop-state
invariant-loop-state g l = record {
  long : length l.links.items ≡ length l.names;
  within : (coarse : ℕ → ℕ) → LeadsWithin coarse (length l.names) l.names → LeadsWithin coarse (length l.names) l.links.items;
}
