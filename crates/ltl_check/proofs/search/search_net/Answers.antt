use Rattle.std.proofs.Common.{arith, refl, inl, ap, subst, [], ◌≡◌, ◌+◌, Ok, None, cond}
use Rattle.ltl_check.specs.Explored.{sum_below, IsDone}
use Rattle.ltl_check.proofs.SecondPass.{none_found}
use Rattle.ltl_check.proofs.Costs.{grown_one, grown_then, no_rest, left_back, left_rest, left_falls, reached_pays, most_one, most_then}
use Rattle.ltl_check.proofs.search.search_net.Goals as goal

pub entering-init : goal.entering-init
entering-init g c = record { searching = c.in_ok-search.ensures.searching; looked = (0, inl (refl, refl), let u = c.in_ok-search.ensures.unpaid in omega arith) }

pub entering-preserved-in-Continue-branch-2 : goal.entering-preserved-in-Continue-branch-2
entering-preserved-in-Continue-branch-2 g c =
    let l = c.entering.invariant.looked in
    let q = l.2 in
    let k = c.in_ok-look.ensures.on.pays in
    record { searching = c.in_ok-look.ensures.on.stands; looked = (l.0 + 1, grown_one _ _ _ _ l.1 c.look.ensures.looked, omega arith) }

pub entering-smaller-in-Continue-branch-2 : goal.entering-smaller-in-Continue-branch-2
entering-smaller-in-Continue-branch-2 g c = c.in_ok-look.ensures.on.falls

pub returns-in_err-look-clause-most : goal.returns-in_err-look-clause-most
returns-in_err-look-clause-most g c =
    most_one (g.N.Numbered.net c.args.net.now) _ _ _ _ _ c.entering.invariant.searching.sized c.entering.invariant.looked
    (let t = c.if-search-pairs_at.true in let p = c.pairs_at.ensures in omega arith) c.look.ensures.looked

pub returns-in_err-walk-clause-most : goal.returns-in_err-walk-clause-most
returns-in_err-walk-clause-most g c = most_then (g.N.Numbered.net c.args.net.now) _ _ _ _ _ c.entering.invariant.searching.sized c.entering.invariant.looked c.leave.ensures.most

pub returns-in-Some-clause-most : goal.returns-in-Some-clause-most
returns-in-Some-clause-most g c = most_then (g.N.Numbered.net c.args.net.now) _ _ _ _ _ c.entering.invariant.searching.sized c.entering.invariant.looked c.leave.ensures.most

pub returns-then-not-step_back-clause-most : goal.returns-then-not-step_back-clause-most
returns-then-not-step_back-clause-most g c = most_then (g.N.Numbered.net c.args.net.now) _ _ _ _ _ c.entering.invariant.searching.sized c.entering.invariant.looked c.leave.ensures.most

pub returns-then-not-step_back-clause-none : goal.returns-then-not-step_back-clause-none
returns-then-not-step_back-clause-none g c _ =
    let h = c.leave.ensures.left (let w = c.in_ok-walk.was in let i = c.in-None.is in cc) in
    none_found (g.N.Numbered.net c.args.net.now) _ (h.1.back.over (c.step_back.ensures.stays c.if-not-step_back.true))

pub returns-then-not-step_back-clause-least : goal.returns-then-not-step_back-clause-least
returns-then-not-step_back-clause-least g c _ =
    let e : c.leave.result ≡ Ok None = (let w = c.in_ok-walk.was in let i = c.in-None.is in cc) in
    let h = c.leave.ensures.left e in
    let empty = c.step_back.ensures.stays c.if-not-step_back.true in
    let l = c.entering.invariant.looked in
    let q = l.2 in
    let m = c.leave.ensures.paid e in
    let r = m.2 in
    let d : IsDone (g.N.Numbered.net c.args.net.now) c.entering.search.dfs_path = (let d = c.if-search-pairs_at.false in let p = c.pairs_at.ensures in omega arith) in
    let z = no_rest (g.N.Numbered.net c.args.net.now) _ c.entering.search.dfs_path.here c.entering.search.dfs_path.next (subst (λ f. f.stem.items ≡ []) h.0 empty) d in (
      l.0 + m.0,
      grown_then _ _ _ _ _ l.1 m.1,
      λ p reached.
          let b = reached_pays (g.N.Numbered.net c.args.net.now) c.leave.new.self.colours.items (h.1.back.over empty) p reached in
          let s = ap (sum_below (λ n. cond (p n) ((g.N.Numbered.net c.args.net.now).pairs n) 0)) h.1.sized in
          omega arith,
    )

pub step_back-requires : goal.step_back-requires
step_back-requires g c = (c.leave.ensures.left (let w = c.in_ok-walk.was in let i = c.in-None.is in cc)).1.back.rooms

pub entering-smaller : goal.entering-smaller
entering-smaller g c =
    let h = c.leave.ensures.left (let w = c.in_ok-walk.was in let i = c.in-None.is in cc) in
    let d : IsDone (g.N.Numbered.net c.args.net.now) c.entering.search.dfs_path = (let d = c.if-search-pairs_at.false in let p = c.pairs_at.ensures in omega arith) in
    left_falls (g.N.Numbered.net c.args.net.now) c.entering.search c.leave.new.self c.step_back.new.self h d (c.step_back.ensures.back c.if-not-step_back.false)

pub entering-preserved : goal.entering-preserved
entering-preserved g c =
    let e : c.leave.result ≡ Ok None = (let w = c.in_ok-walk.was in let i = c.in-None.is in cc) in
    let h = c.leave.ensures.left e in
    let b = c.step_back.ensures.back c.if-not-step_back.false in
    let l = c.entering.invariant.looked in
    let q = l.2 in
    let m = c.leave.ensures.paid e in
    let s = m.2 in
    let d : IsDone (g.N.Numbered.net c.args.net.now) c.entering.search.dfs_path = (let d = c.if-search-pairs_at.false in let p = c.pairs_at.ensures in omega arith) in
    let r = left_rest (g.N.Numbered.net c.args.net.now) c.entering.search c.leave.new.self c.step_back.new.self h d b in
    record {
      searching = left_back (g.N.Numbered.net c.args.net.now) c.entering.search c.leave.new.self c.step_back.new.self h b;
      looked = (l.0 + m.0, grown_then _ _ _ _ _ l.1 m.1, omega arith);
    }
