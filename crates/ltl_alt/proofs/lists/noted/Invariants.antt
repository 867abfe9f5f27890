use Rattle.std.proofs.Common.{◌≡◌, take}
use Rattle.std.specs.Ordering.{eq_by_cmp}
use Rattle.ltl_spec.specs.Collections.Lists.{first_occurrences}
use Rattle.ltl_spec.specs.Transitions.Pairs.{pair_cmp}
use Rattle.ltl_alt.specs.StandIns.{joins_by_right}
use Rattle.ltl_alt.proofs.lists.noted.Given as goal

abbrev pub invariant-right : goal.invariant-right
invariant-right g l = l.once.keys ≡ first_occurrences (eq_by_cmp pair_cmp) (joins_by_right l.left (take l.q-index l.right))
