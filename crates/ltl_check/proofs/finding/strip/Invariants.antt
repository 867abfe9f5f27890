use Rattle.std.proofs.Common.{length, ◌-◌, ◌≡◌, ◌≤◌, take, map}
use Rattle.ltl_check.specs.Levels.{without_level}
use Rattle.ltl_check.proofs.finding.strip.Given as goal

abbrev pub invariant-steps : goal.invariant-steps
invariant-steps g l = record {
  within : l.i ≤ length l.steps.items;
  done : l.stripped.items ≡ map (without_level l.sets) (take l.i l.steps.items);
}

abbrev pub decreases-steps : goal.decreases-steps
decreases-steps g l = length l.steps.items - l.i
