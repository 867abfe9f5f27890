use Rattle.std.proofs.Common.{arith, refl, sym, length, ◌≡◌, ◌<◌, ◌∙◌}
use Rattle.std.proofs.lemmas.Option.{slice_get_read}
use Rattle.ltl_check.proofs.BreadthLaws.{goal_of, look_none, look_cycle, look_cycle_goal, look_stem, look_stem_goal}
use Rattle.ltl_check.proofs.breadth.Breadth.look.Goals as goal

pub returns-in_default-clause-on : goal.returns-in_default-clause-on
returns-in_default-clause-on g c _ = look_none (g.N.Numbered.net c.args.net.now) c.args.task.bases c.args.task.sets _ _ _ _ _ _ c.get.result.now c.requires.expands c.get.ensures (sym c.look.ensures.found ∙ c.in_default.is)

pub returns-then-here-gt0-clause-on : goal.returns-then-here-gt0-clause-on
returns-then-here-gt0-clause-on g c e =
    let x = c.requires.expands in
    let within : c.args.self.now.at < length c.args.self.now.arrivals.items = (let l = x.inside in let m = x.layer.some in let s = x.layer.tree.sized in omega arith) in
    let was = slice_get_read c.args.self.now.arrivals.items (length c.args.self.now.arrivals.items) c.args.self.now.at c.index.result.now refl within c.index.ensures in
    let p = rw e at c.go_on.ensures.put in
    let l = rw e at c.go_on.ensures.listed in
    rw (p.1.0, p.1.1, p.1.2)
    (look_cycle (g.N.Numbered.net c.args.net.now) c.args.task.bases c.args.task.sets _ _ _ _ c.get.result.now c.in-Some.step _ _ _ x (record {
      there = c.get.ensures;
      origin = c.index.result.now;
      was = was;
      edge = record { within = c.requires.more c.get.result.now c.get.ensures; found = sym c.in-Some.ensures.found };
      inside = c.in-Some.ensures.below;
      from = refl;
      deeper = refl;
      taken = refl;
    }) c.if-here-gt0.true _ _ p.0 l (c.go_on.ensures.open e))

pub returns-then-here-gt0-clause-closed : goal.returns-then-here-gt0-clause-closed
returns-then-here-gt0-clause-closed g c =
    let x = c.requires.expands in
    let within : c.args.self.now.at < length c.args.self.now.arrivals.items = (let l = x.inside in let m = x.layer.some in let s = x.layer.tree.sized in omega arith) in
    let was = slice_get_read c.args.self.now.arrivals.items (length c.args.self.now.arrivals.items) c.args.self.now.at c.index.result.now refl within c.index.ensures in
    goal_of c.go_on.result _ _ _ c.go_on.ensures.put c.go_on.ensures.closed (λ i p q.
    rw p.1.2
    (look_cycle_goal (g.N.Numbered.net c.args.net.now) c.args.task.bases c.args.task.sets _ _ _ _ c.get.result.now c.in-Some.step _ _ _ x (record {
      there = c.get.ensures;
      origin = c.index.result.now;
      was = was;
      edge = record { within = c.requires.more c.get.result.now c.get.ensures; found = sym c.in-Some.ensures.found };
      inside = c.in-Some.ensures.below;
      from = refl;
      deeper = refl;
      taken = refl;
    }) c.if-here-gt0.true _ _ i p.0 q.0 q.1))

pub returns-else-here-gt0-clause-on : goal.returns-else-here-gt0-clause-on
returns-else-here-gt0-clause-on g c e =
    let x = c.requires.expands in
    let within : c.args.self.now.at < length c.args.self.now.arrivals.items = (let l = x.inside in let m = x.layer.some in let s = x.layer.tree.sized in omega arith) in
    let was = slice_get_read c.args.self.now.arrivals.items (length c.args.self.now.arrivals.items) c.args.self.now.at c.index.result.now refl within c.index.ensures in
    let z : c.get.result.now.base ≡ 0 = (let t = c.if-here-gt0.false in omega arith) in
    let p = rw e at c.branch-self.ensures.put in
    let l = rw e at c.branch-self.ensures.listed in
    rw (p.1.0, p.1.1, p.1.2)
    (look_stem (g.N.Numbered.net c.args.net.now) c.args.task.bases c.args.task.sets _ _ _ _ c.get.result.now c.in-Some.step _ _ _ x (record {
      there = c.get.ensures;
      origin = c.index.result.now;
      was = was;
      edge = record { within = c.requires.more c.get.result.now c.get.ensures; found = sym c.in-Some.ensures.found };
      inside = c.in-Some.ensures.below;
      from = refl;
      deeper = refl;
      taken = refl;
    }) z _ _ p.0 l (c.branch-self.ensures.open e))

pub returns-else-here-gt0-clause-closed : goal.returns-else-here-gt0-clause-closed
returns-else-here-gt0-clause-closed g c =
    let x = c.requires.expands in
    let within : c.args.self.now.at < length c.args.self.now.arrivals.items = (let l = x.inside in let m = x.layer.some in let s = x.layer.tree.sized in omega arith) in
    let was = slice_get_read c.args.self.now.arrivals.items (length c.args.self.now.arrivals.items) c.args.self.now.at c.index.result.now refl within c.index.ensures in
    let z : c.get.result.now.base ≡ 0 = (let t = c.if-here-gt0.false in omega arith) in
    goal_of c.branch-self.result _ _ _ c.branch-self.ensures.put c.branch-self.ensures.closed (λ i p q.
    rw p.1.2
    (look_stem_goal (g.N.Numbered.net c.args.net.now) c.args.task.bases c.args.task.sets _ _ _ _ c.get.result.now c.in-Some.step _ _ _ x (record {
      there = c.get.ensures;
      origin = c.index.result.now;
      was = was;
      edge = record { within = c.requires.more c.get.result.now c.get.ensures; found = sym c.in-Some.ensures.found };
      inside = c.in-Some.ensures.below;
      from = refl;
      deeper = refl;
      taken = refl;
    }) z _ _ i p.0 q.0 q.1 q.2))
