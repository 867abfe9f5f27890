use Rattle.std.proofs.Common.{List, take}
use Rattle.ltl_spec.specs.Transitions.Pairs.{Pair}
use Rattle.ltl_alt.specs.Columns.{AreColumns, IsNeeding}
use Rattle.ltl_alt.specs.Tests.{steps_of}
use Rattle.ltl_alt.proofs.columns.put_columns.Given as goal

abbrev pub invariant-steps : goal.invariant-steps
invariant-steps g l = (ps : List Pair) → IsNeeding ps l.needing → AreColumns (steps_of (take l.k l.fulfilment.steps.items)) ps l.columns.items
