use Rattle.std.proofs.Common.{arith, sym, ◌+◌, ◌/◌, ◌%◌}
use Rattle.ltl_check.specs.LevelLaws.{placed_target, place_level, place_within, place_below}
use Rattle.ltl_check.proofs.levels.LevelsNumbered.look.Goals as goal

pub number-requires : goal.number-requires
number-requires g c =
    let f = rw c.state.ensures at c.in-Some.ensures.found in
    let sets = g.G.Graph.sets_of c.args.self.now.graph.now in
    let t = placed_target (g.G.Graph.IsState c.args.self.now.graph.now) sets (c.args.n % (sets + 1)) (g.G.Graph.step_of c.args.self.now.graph.now (g.G.Graph.state_of c.args.self.now.graph.now (c.args.n / (sets + 1))) c.args.k) c.in-Some.step (place_level c.args.n sets) (sym f)
    (λ a h. g.met.G.Graph.target_is c.args.self.now.graph.now (g.G.Graph.state_of c.args.self.now.graph.now (c.args.n / (sets + 1))) c.args.k a (g.met.G.Graph.state_is c.args.self.now.graph.now (c.args.n / (sets + 1)) (place_within c.args.n (g.G.Graph.count_of c.args.self.now.graph.now) sets c.requires.own)) c.requires.inside h) in
    (t.0, t.1)

pub returns-in-Some-clause-below : goal.returns-in-Some-clause-below
returns-in-Some-clause-below g c =
    let f = rw c.state.ensures at c.in-Some.ensures.found in
    let sets = g.G.Graph.sets_of c.args.self.now.graph.now in
    let t = placed_target (g.G.Graph.IsState c.args.self.now.graph.now) sets (c.args.n % (sets + 1)) (g.G.Graph.step_of c.args.self.now.graph.now (g.G.Graph.state_of c.args.self.now.graph.now (c.args.n / (sets + 1))) c.args.k) c.in-Some.step (place_level c.args.n sets) (sym f)
    (λ a h. g.met.G.Graph.target_is c.args.self.now.graph.now (g.G.Graph.state_of c.args.self.now.graph.now (c.args.n / (sets + 1))) c.args.k a (g.met.G.Graph.state_is c.args.self.now.graph.now (c.args.n / (sets + 1)) (place_within c.args.n (g.G.Graph.count_of c.args.self.now.graph.now) sets c.requires.own)) c.requires.inside h) in
    let b = place_below (g.G.Graph.number_of c.args.self.now.graph.now c.in-Some.step.target.state) c.in-Some.step.target.level (g.G.Graph.count_of c.args.self.now.graph.now) sets (g.met.G.Graph.below c.args.self.now.graph.now c.in-Some.step.target.state t.0) t.1 in
    let e = c.number.ensures in
    omega arith
