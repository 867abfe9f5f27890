use Rattle.std.proofs.Common.{◌≡◌, Ok}
use Rattle.ltl_check.specs.declared.breadth.Outcome.TheVariants.{Nothing, Closed}
use Rattle.ltl_check.proofs.ShortestLaws.{fewest_closed, fewest_none}
use Rattle.ltl_check.proofs.shortest.find_shorter.Goals as goal

pub search-requires-clause-stands : goal.search-requires-clause-stands
search-requires-clause-stands g c = c.in_ok-breadth.ensures.begun c.args.task

pub lasso-requires : goal.lasso-requires
lasso-requires g c =
    let e : c.search.result ≡ Ok (Closed c.in-Closed.number) = (let w = c.in_ok-number.was in let i = c.in-Closed.is in cc) in
    (g.N.Numbered.net c.args.net.now, (c.args.task, (c.search.ensures.closed c.in-Closed.number e).0))

pub returns-in-Closed-clause-found : goal.returns-in-Closed-clause-found
returns-in-Closed-clause-found g c =
    let e : c.search.result ≡ Ok (Closed c.in-Closed.number) = (let w = c.in_ok-number.was in let i = c.in-Closed.is in cc) in
    let h = c.search.ensures.closed c.in-Closed.number e in
    fewest_closed (g.N.Numbered.net c.args.net.now) c.args.task _ _ _ _ c.args.limit h.0 h.1 _ _ (c.in_ok-lasso-in-Closed.ensures (g.N.Numbered.net c.args.net.now) c.args.task h.0)

pub returns-in-Nothing-clause-found : goal.returns-in-Nothing-clause-found
returns-in-Nothing-clause-found g c =
    let e : c.search.result ≡ Ok Nothing = (let w = c.in_ok-number.was in let i = c.in-Nothing.is in cc) in
    let s = c.search.ensures.none e in
    fewest_none (g.N.Numbered.net c.args.net.now) c.args.task _ _ _ _ _ c.args.limit s.0 s.1
