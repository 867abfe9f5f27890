use Rattle.std.proofs.Common.{◌≡◌}
use Rattle.std.specs.Prelude.{replicate, None}
use Rattle.ltl_alt.proofs.step_lists.StepLists.new.Given as goal

abbrev pub invariant-lists : goal.invariant-lists
invariant-lists g l = l.lists.items ≡ replicate l._k None
