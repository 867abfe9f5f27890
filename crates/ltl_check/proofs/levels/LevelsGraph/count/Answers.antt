use Rattle.std.proofs.Common.{arith, ◌+◌}
use Rattle.ltl_check.specs.LevelLaws.{fits_one}
use Rattle.ltl_check.proofs.levels.LevelsGraph.count.Goals as goal

pub overflow_add-result : goal.overflow_add-result
overflow_add-result g c =
    let p = g.met.G.Graph.below c.args.self.now.graph.now _ (g.met.G.Graph.start_is c.args.self.now.graph.now) in
    let q = fits_one (g.G.Graph.count_of c.args.self.now.graph.now) (g.G.Graph.sets_of c.args.self.now.graph.now + 1) 16777216 (omega arith) c.args.self.now.fits in
    let e = c.sets.ensures in
    omega arith
