use Rattle.std.proofs.Common.{◌≡◌, Ok, None}
use Rattle.ltl_check.specs.Levels.{net_of}
use Rattle.ltl_check.proofs.FullWalkLaws.{found_stripped, found_from_full}
use Rattle.ltl_check.proofs.RowSums.{most_levels}
use Rattle.ltl_check.proofs.finding.find.Goals as goal

pub returns-in_ok-cycle-in-Some-clause-found : goal.returns-in_ok-cycle-in-Some-clause-found
returns-in_ok-cycle-in-Some-clause-found g c =
    let f = rw (c.in-Some.is, c.of-levels.ensures) at c.in_ok-walk.ensures.found in
    found_stripped (net_of (g.G.Graph.count_of c.args.graph.now) (g.G.Graph.start_of c.args.graph.now) (g.G.Graph.number_of c.args.graph.now) (g.G.Graph.state_of c.args.graph.now) (g.G.Graph.pairs_of c.args.graph.now) (g.G.Graph.step_of c.args.graph.now)) (g.G.Graph.sets_of c.args.graph.now) c.in-Some.walk.stem.items c.in-Some.walk.cycle.items _ _ c.sets-sets.result c.sets-sets.ensures c.in_ok-stem-in-Some.ensures c.in_ok-cycle-in-Some.ensures f

pub returns-in-None-clause-none : goal.returns-in-None-clause-none
returns-in-None-clause-none g c _ stem cycle h =
    let e : c.search_net.result ≡ Ok None = (let w = c.in_ok-walk.was in let i = c.in-None.is in cc) in
    let n = rw c.of-levels.ensures at (c.search_net.ensures.none e) in
    let f = found_from_full (net_of (g.G.Graph.count_of c.args.graph.now) (g.G.Graph.start_of c.args.graph.now) (g.G.Graph.number_of c.args.graph.now) (g.G.Graph.state_of c.args.graph.now) (g.G.Graph.pairs_of c.args.graph.now) (g.G.Graph.step_of c.args.graph.now)) (g.G.Graph.sets_of c.args.graph.now) stem cycle h in
    n f.0 f.1 f.2

pub returns-in-None-clause-least : goal.returns-in-None-clause-least
returns-in-None-clause-least g c _ =
    let e : c.search_net.result ≡ Ok None = (let w = c.in_ok-walk.was in let i = c.in-None.is in cc) in
    rw c.of-levels.ensures at (c.search_net.ensures.least e)

pub returns-in_err-walk-clause-most : goal.returns-in_err-walk-clause-most
returns-in_err-walk-clause-most g c =
    let m = rw c.of-levels.ensures at c.search_net.ensures.most in
    (m.0, m.1, most_levels (λ n. g.G.Graph.pairs_of c.args.graph.now (g.G.Graph.state_of c.args.graph.now n)) (g.G.Graph.sets_of c.args.graph.now) (g.G.Graph.count_of c.args.graph.now) m.0 m.2)

pub returns-in_err-stem-in-Some-clause-most : goal.returns-in_err-stem-in-Some-clause-most
returns-in_err-stem-in-Some-clause-most g c =
    let m = rw c.of-levels.ensures at c.search_net.ensures.most in
    (m.0, m.1, most_levels (λ n. g.G.Graph.pairs_of c.args.graph.now (g.G.Graph.state_of c.args.graph.now n)) (g.G.Graph.sets_of c.args.graph.now) (g.G.Graph.count_of c.args.graph.now) m.0 m.2)

pub returns-in_err-cycle-in-Some-clause-most : goal.returns-in_err-cycle-in-Some-clause-most
returns-in_err-cycle-in-Some-clause-most g c =
    let m = rw c.of-levels.ensures at c.search_net.ensures.most in
    (m.0, m.1, most_levels (λ n. g.G.Graph.pairs_of c.args.graph.now (g.G.Graph.state_of c.args.graph.now n)) (g.G.Graph.sets_of c.args.graph.now) (g.G.Graph.count_of c.args.graph.now) m.0 m.2)

pub returns-in_ok-cycle-in-Some-clause-most : goal.returns-in_ok-cycle-in-Some-clause-most
returns-in_ok-cycle-in-Some-clause-most g c =
    let m = rw c.of-levels.ensures at c.search_net.ensures.most in
    (m.0, m.1, most_levels (λ n. g.G.Graph.pairs_of c.args.graph.now (g.G.Graph.state_of c.args.graph.now n)) (g.G.Graph.sets_of c.args.graph.now) (g.G.Graph.count_of c.args.graph.now) m.0 m.2)

pub returns-in-None-clause-most : goal.returns-in-None-clause-most
returns-in-None-clause-most g c =
    let m = rw c.of-levels.ensures at c.search_net.ensures.most in
    (m.0, m.1, most_levels (λ n. g.G.Graph.pairs_of c.args.graph.now (g.G.Graph.state_of c.args.graph.now n)) (g.G.Graph.sets_of c.args.graph.now) (g.G.Graph.count_of c.args.graph.now) m.0 m.2)
