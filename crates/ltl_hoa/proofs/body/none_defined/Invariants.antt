use Rattle.std.proofs.Common.{◌≡◌}
use Rattle.std.specs.Prelude.{replicate, false}
use Rattle.ltl_hoa.proofs.body.none_defined.Given as goal

abbrev pub invariant-states : goal.invariant-states
invariant-states g l = l.defined.items ≡ replicate l._k false
