use Rattle.std.proofs.Common.{◌∙◌}
use Rattle.ltl_passes.proofs.RunLaws.{ordered}
use Rattle.ltl_passes.proofs.implied.by_target.Goals as goal

pub returns : goal.returns
returns g c =
    ordered c.args.labels.now c.args.edges.now c.in_ok-sorted.sorted.items c.in_ok-order.order.items c.in_ok-sorted.ensures.moved c.in_ok-sorted.ensures.sorted (c.in_ok-order.ensures.codes ∙ c.as_slice.ensures.value)
    c.in_ok-order.ensures.labelled
