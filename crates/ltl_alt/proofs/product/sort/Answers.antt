use Rattle.std.proofs.Common.{rules}
use Rattle.ltl_spec.proofs.Transitions.UnimpliedLaws.{transition_total}
use Rattle.ltl_spec.proofs.Collections.SortedSets.{sorted_by}
use Rattle.ltl_alt.proofs.product.sort.Goals as goal

pub returns-clause-sorted : goal.returns-clause-sorted
returns-clause-sorted g c = sorted_by transition_total (λ t. t) _ c.in_ok-sort_by.ensures.sorted (λ a r q k. search rules)
