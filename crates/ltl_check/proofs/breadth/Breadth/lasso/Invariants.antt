use Rattle.std.proofs.Common.{◌+◌, ◌<◌, length}
use Rattle.ltl_check.specs.declared.breadth.Task.{Task}
use Rattle.ltl_check.specs.Nets.{Net}
use Rattle.ltl_check.specs.Breadth.{HasGoal}
use Rattle.ltl_check.proofs.BreadthLaws.{IsBackAt}
use Rattle.ltl_check.proofs.breadth.Breadth.lasso.Given as goal

abbrev pub invariant-back : goal.invariant-back
invariant-back g l = record {
  within : l.at < length l.self.arrivals.items;
  leads : (N : Net) (task : Task) → HasGoal N task l.self l.number → IsBackAt N task.bases task.sets l.self.places.keys l.self.arrivals.items (l.self.depth + 1) l.at l.stem.items l.cycle.items;
}

abbrev pub decreases-back : goal.decreases-back
decreases-back g l = l.at
