use Rattle.std.proofs.Common.{◌≡◌}
use Rattle.std.specs.Prelude.{map, take}
use Rattle.ltl_models.proofs.PlacedLaws.{place_in}
use Rattle.ltl_models.proofs.order.places.Given as goal

abbrev pub invariant-loop-key : goal.invariant-loop-key
invariant-loop-key g l = record {
  items : l.places.items ≡ map place_in (take l.key-index l.keys);
}
