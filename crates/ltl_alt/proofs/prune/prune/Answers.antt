use Rattle.std.proofs.Common.{◌∙◌}
use Rattle.ltl_alt.proofs.PruneLaws.{pruned_once}
use Rattle.ltl_alt.proofs.prune.prune.Goals as goal

pub returns : goal.returns
returns g c =
    pruned_once c.args.pruning.now.rule c.args.pruning.now.fulfilment.now c.args.pairs.items c.in_ok-kept.kept.items _ c.in_ok-kept.ensures
    (c.in_ok-exact.ensures.items ∙ c.as_slice.ensures.value ∙ c.in_ok-sort_runs_dedup.ensures)
