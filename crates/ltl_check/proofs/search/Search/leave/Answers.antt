use Rattle.std.proofs.Common.{sym, arith, refl, inl, ◌≡◌, Ok, None, ◌∙◌}
use Rattle.ltl_check.proofs.Costs.{left_unmarked, left_marked, left_cost, marked_cost}
use Rattle.ltl_check.proofs.search.Search.leave.Goals as goal

pub returns-then-not-accepts-clause-left : goal.returns-then-not-accepts-clause-left
returns-then-not-accepts-clause-left g c _ =
    (refl, left_unmarked (g.N.Numbered.net c.args.net.now) _ _ _ _ c.requires.searching c.requires.done (sym c.accepts.ensures ∙ c.if-not-accepts.true))

pub returns-then-not-accepts-clause-most : goal.returns-then-not-accepts-clause-most
returns-then-not-accepts-clause-most g c = (0, inl (refl, refl), omega arith)

pub returns-then-not-accepts-clause-paid : goal.returns-then-not-accepts-clause-paid
returns-then-not-accepts-clause-paid g c _ =
    (0, inl (refl, refl), let t = left_cost (g.N.Numbered.net c.args.net.now) _ _ _ _ c.requires.searching.explored c.requires.searching.sized in omega arith)

pub returns-in-None-clause-left : goal.returns-in-None-clause-left
returns-in-None-clause-left g c _ =
    (refl, left_marked (g.N.Numbered.net c.args.net.now) _ _ _ _ _ c.requires.done (c.inner_search.ensures.probed (let w = c.in_ok-walk.was in let i = c.in-None.is in cc)))

pub returns-in-None-clause-paid : goal.returns-in-None-clause-paid
returns-in-None-clause-paid g c _ =
    let e : c.inner_search.result ≡ Ok None = (let w = c.in_ok-walk.was in let i = c.in-None.is in cc) in
    let l = c.inner_search.ensures.paid e in
    let q = l.2 in
    let m = marked_cost (g.N.Numbered.net c.args.net.now) _ _ _ _ (c.inner_search.ensures.probed e).stands.explored (c.inner_search.ensures.probed e).stands.sized in
    (l.0, l.1, omega arith)
