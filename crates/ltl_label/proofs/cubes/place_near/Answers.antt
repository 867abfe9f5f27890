use Rattle.std.proofs.Common.{rules, arith}
use Rattle.ltl_label.proofs.CubeLists.{found_at}
use Rattle.ltl_label.proofs.cubes.place_near.Goals as goal

pub returns-in-Equal-clause-found : goal.returns-in-Equal-clause-found
returns-in-Equal-clause-found c =
    found_at c.args.cubes.now c.args.likely c.args.cube.now c.index-cubes-likely.result (omega (arith, c.if-likely-cubes.true)) (search rules) (search rules)
