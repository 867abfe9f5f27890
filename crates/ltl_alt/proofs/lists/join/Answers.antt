use Rattle.std.proofs.Common.{◌∙◌, sym, subst}
use Rattle.std.specs.Ordering.{eq_by_cmp}
use Rattle.ltl_spec.specs.Collections.Lists.{HasNoRepeats}
use Rattle.ltl_spec.specs.Transitions.Pairs.{pair_cmp}
use Rattle.ltl_spec.proofs.Collections.ListLaws.{HasNoRepeats-first_occurrences}
use Rattle.ltl_alt.specs.StandIns.{joins_by_right}
use Rattle.ltl_alt.specs.PairHash.{pair_Decides}
use Rattle.ltl_alt.proofs.RepeatLaws.{same_set, by_right}
use Rattle.ltl_alt.proofs.lists.join.Goals as goal

pub returns-clause-set : goal.returns-clause-set
returns-clause-set g c = same_set (joins_by_right c.args.left.now c.args.right.now) c.in_ok-once.once.keys c.in_ok-pairs.pairs.items c.in_ok-once.ensures (c.in_ok-pairs.ensures.items ∙ c.as_slice.ensures) ∙ by_right c.args.left.now c.args.right.now

pub returns-clause-once : goal.returns-clause-once
returns-clause-once g c = subst HasNoRepeats (sym (c.in_ok-pairs.ensures.items ∙ c.as_slice.ensures ∙ c.in_ok-once.ensures)) (HasNoRepeats-first_occurrences (eq_by_cmp pair_cmp) pair_Decides (joins_by_right c.args.left.now c.args.right.now))
