use Rattle.std.proofs.Common.{◌∙◌, ap}
use Rattle.std.specs.Prelude.{map, slice_index}
use Rattle.ltl_passes.proofs.ClassLaws.{least_from}
use Rattle.ltl_automaton.proofs.WayLaws.{take_whole}
use Rattle.ltl_passes.proofs.partition.least_places.Goals as goal

pub returns : goal.returns
returns g c =
    least_from c.args.signatures.now c.in_ok-firsts.firsts.items c.loop-signature.names.items c.args.count c.in_ok-firsts.ensures
    (c.loop-signature.invariant ∙ ap (map (slice_index c.in_ok-firsts.firsts.items)) (take_whole c.loop-signature.signature-index c.args.signatures.now c.loop-signature-test.false))
