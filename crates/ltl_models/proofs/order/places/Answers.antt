use Rattle.std.proofs.Common.{◌∙◌}
use Rattle.ltl_models.proofs.PlacedLaws.{places_more}
use Rattle.ltl_models.proofs.order.places.Goals as goal

pub loop-key-preserved : goal.loop-key-preserved
loop-key-preserved g c =
    record { items = c.in_ok-push.ensures.ok ∙ places_more c.args.keys.now c.loop-key.key-index c.loop-key.places.items _ c.loop-key-test.true c.loop-key.invariant.items }
