use Rattle.std.proofs.Common.{rules, ◌+◌, ◌-◌, ◌/◌, arith}
use Rattle.ltl_label.proofs.CubeLists.{found_at}
use Rattle.ltl_label.proofs.cubes.place_of.Goals as goal

pub returns-in-Equal-clause-found : goal.returns-in-Equal-clause-found
returns-in-Equal-clause-found c =
    found_at c.args.cubes.now (c.halves.low + (c.halves.high - c.halves.low) / 2) c.args.cube.now c.index-cubes-middle.result
    (omega (arith, c.halves-test.true, c.halves.invariant.within)) (search rules) (search rules)
