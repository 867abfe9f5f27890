use Rattle.std.proofs.Common.{arith, ◌≡◌}
use Rattle.ltl_check.proofs.StepPathLaws.{one_more}
use Rattle.ltl_check.proofs.search.place_of.Goals as goal

pub places-preserved : goal.places-preserved
places-preserved c = record { within = omega arith; absent = one_more (λ t. t.state ≡ c.args.n) c.args.stem.now c.places.i _ c.places-test.true c.places.invariant.absent c.if-stem-i.false }
