use Rattle.std.proofs.Common.{◌≡◌, take}
use Rattle.std.specs.Prelude.{filter_map, fold}
use Rattle.std.specs.Ordering.{eq_by_cmp}
use Rattle.ltl_spec.specs.Collections.Lists.{with_new}
use Rattle.ltl_spec.specs.Transitions.Pairs.{pair_cmp, join_pair}
use Rattle.ltl_alt.proofs.lists.note_joins.Given as goal

abbrev pub invariant-left : goal.invariant-left
invariant-left g l = l.once.keys ≡ fold (with_new (eq_by_cmp pair_cmp)) l.initial.once.keys (filter_map (λ p. join_pair p l.right) (take l.p-index l.left))
