use Rattle.std.proofs.Common.{◌+◌, ◌-◌, ◌*◌, ◌≤◌, length}
use Rattle.ltl_alt.specs.ConjunctView.{AreInside}
use Rattle.ltl_alt.specs.TestPairs.{step_pairs}
use Rattle.ltl_alt.proofs.ConjunctLaws.{IsMadeOf}
use Rattle.ltl_alt.proofs.conjuncts.conjuncts.Given as goal

abbrev pub invariant-stack : goal.invariant-stack
invariant-stack g l = record {
  few : length l.conjuncts.items + length l.stack.items ≤ l.most;
  conjuncts : AreInside l.steps l.conjuncts.items;
  stack : AreInside l.steps l.stack.items;
  joined : IsMadeOf l.steps (step_pairs l.steps l.fn.step) l.conjuncts.items l.stack.items;
}

abbrev pub decreases-stack : goal.decreases-stack
decreases-stack g l = 2 * (l.most - (length l.conjuncts.items + length l.stack.items)) + length l.stack.items
