use Rattle.std.proofs.Common.{arith, refl, length, ◌≡◌, ◌<◌}
use Rattle.std.proofs.lemmas.Option.{slice_get_read}
use Rattle.ltl_check.proofs.BreadthLaws.{arrival_on, get_below, back_begin, back_cycle, back_stem, back_end}
use Rattle.ltl_check.proofs.breadth.Breadth.lasso.Goals as goal

pub back-init : goal.back-init
back-init g c = record {
  within =
      let h = c.requires.1.1 in
      let l : c.args.number < length c.args.self.now.places.keys = get_below c.args.self.now.places.keys c.args.number h.place h.there in
      let s : length c.args.self.now.arrivals.items ≡ length c.args.self.now.places.keys = h.tree.sized in
      omega arith;
  leads = λ N task h. rw (c.new-stem.ensures.items, c.new-cycle.ensures.items) (back_begin N task.bases task.sets _ _ _ _ h);
}

pub back-smaller-in_ok-push : goal.back-smaller-in_ok-push
back-smaller-in_ok-push g c =
    let h = c.requires.1.1 in
    let r = arrival_on c.args.self.now.arrivals.items c.back.at c.index.result.now c.index-arrival.result.now c.back.invariant.within c.index.ensures c.index-arrival.ensures c.back-test.true in
    h.tree.back c.back.at c.index-arrival.result.now r.0 r.1

pub back-preserved-in_ok-push : goal.back-preserved-in_ok-push
back-preserved-in_ok-push g c =
    let r = arrival_on c.args.self.now.arrivals.items c.back.at c.index.result.now c.index-arrival.result.now c.back.invariant.within c.index.ensures c.index-arrival.ensures c.back-test.true in
    let w = c.back.invariant.within in
    record {
      within = let k = c.requires.1.1 in let l = k.tree.back c.back.at c.index-arrival.result.now r.0 r.1 in omega arith;
      leads = λ N task h. back_cycle N task.bases task.sets _ _ _ _ _ _ _ h.tree (c.back.invariant.leads N task h) c.get.result.now c.index-arrival.result.now c.get.ensures r.0 r.1 c.if-get-gt0.true _ c.in_ok-push.ensures.items;
    }

pub back-smaller : goal.back-smaller
back-smaller g c =
    let h = c.requires.1.1 in
    let r = arrival_on c.args.self.now.arrivals.items c.back.at c.index.result.now c.index-arrival.result.now c.back.invariant.within c.index.ensures c.index-arrival.ensures c.back-test.true in
    h.tree.back c.back.at c.index-arrival.result.now r.0 r.1

pub back-preserved : goal.back-preserved
back-preserved g c =
    let r = arrival_on c.args.self.now.arrivals.items c.back.at c.index.result.now c.index-arrival.result.now c.back.invariant.within c.index.ensures c.index-arrival.ensures c.back-test.true in
    let w = c.back.invariant.within in
    record {
      within = let k = c.requires.1.1 in let l = k.tree.back c.back.at c.index-arrival.result.now r.0 r.1 in omega arith;
      leads = λ N task h. back_stem N task.bases task.sets _ _ _ _ _ _ _ h.tree (c.back.invariant.leads N task h) c.get.result.now c.index-arrival.result.now c.get.ensures r.0 r.1 (let t = c.if-get-gt0.false in omega arith) _ c.in_ok-push-2.ensures.items;
    }

pub returns : goal.returns
returns g c N task h =
    let x = c.back.invariant.leads N task h in
    let was = slice_get_read c.args.self.now.arrivals.items (length c.args.self.now.arrivals.items) c.back.at c.index.result.now refl c.back.invariant.within c.index.ensures in
    back_end N task.bases task.sets _ _ _ _ _ _ _ h.tree x c.index.result.now was (let t = c.back-test.false in omega arith) _ _ c.reverse.ensures.items c.reverse-2.ensures.items
