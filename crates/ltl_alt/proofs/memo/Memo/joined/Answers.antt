use Rattle.std.proofs.Common.{◌∙◌}
use Rattle.ltl_spec.specs.Collections.Sets.{set_of}
use Rattle.ltl_spec.specs.Transitions.Pairs as spec_pairs
use Rattle.ltl_alt.proofs.memo.Memo.joined.Goals as goal

pub returns-clause-set : goal.returns-clause-set
returns-clause-set g c = c.in_ok-joined.ensures.set ∙ (λ i. set_of spec_pairs.pair_cmp (spec_pairs.join (c.pairs.ensures i) (c.pairs-2.ensures i)))
