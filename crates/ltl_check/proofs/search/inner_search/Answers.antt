use Rattle.std.proofs.Common.{arith, refl, inl, ◌+◌}
use Rattle.ltl_check.specs.Explored.{IsDone}
use Rattle.ltl_check.proofs.Costs.{begun_probe, back_probing, ended, found_met, grown_one, path_rooms, popped_rest, popped_falls, most_probing, most_probed, no_rest}
use Rattle.ltl_check.proofs.search.inner_search.Goals as goal

pub marking-init : goal.marking-init
marking-init g c = record {
  probing = begun_probe (g.N.Numbered.net c.args.net.now) c.args.first.now (record { stem = c.new.result; here = c.args.first.now.here; next = 0 }) _ c.requires.stands c.requires.done c.new.ensures.items refl refl;
  enters = refl;
  looked = (0, inl (refl, refl), rw c.new.ensures.items (omega arith));
}

pub marking-preserved-in-None : goal.marking-preserved-in-None
marking-preserved-in-None g c =
    let m = c.second_look.ensures.marks (let w = c.in_ok-met.was in let i = c.in-None.is in cc) in
    let a = m.enters in
    let b = c.marking.invariant.enters in
    let l = c.marking.invariant.looked in
    let q = l.2 in
    let p = m.pays in
    record { probing = m.stands; enters = cc; looked = (l.0 + 1, grown_one _ _ _ _ l.1 c.second_look.ensures.looked, omega arith) }

pub marking-smaller-in-None : goal.marking-smaller-in-None
marking-smaller-in-None g c = (c.second_look.ensures.marks (let w = c.in_ok-met.was in let i = c.in-None.is in cc)).falls

pub step_back-requires : goal.step_back-requires
step_back-requires g c = path_rooms (g.N.Numbered.net c.args.net.now) _ _ c.marking.invariant.probing.probed.steps

pub marking-smaller : goal.marking-smaller
marking-smaller g c =
    let d : IsDone (g.N.Numbered.net c.args.net.now) c.marking.path = (let d = c.if-path-pairs_at.false in let p = c.pairs_at.ensures in omega arith) in
    popped_falls (g.N.Numbered.net c.args.net.now) c.marking.path c.step_back.new.self d (c.step_back.ensures.back c.if-not-step_back.false) _

pub marking-preserved : goal.marking-preserved
marking-preserved g c =
    let d : IsDone (g.N.Numbered.net c.args.net.now) c.marking.path = (let d = c.if-path-pairs_at.false in let p = c.pairs_at.ensures in omega arith) in
    let b = c.step_back.ensures.back c.if-not-step_back.false in
    let l = c.marking.invariant.looked in
    let q = l.2 in
    let r = popped_rest (g.N.Numbered.net c.args.net.now) c.marking.path c.step_back.new.self d b in
    record {
      probing = back_probing (g.N.Numbered.net c.args.net.now) c.args.first.now c.marking.path _ c.step_back.new.self c.marking.invariant.probing d b;
      enters = c.marking.invariant.enters;
      looked = (l.0, l.1, omega arith);
    }

pub returns-in-Some-clause-found : goal.returns-in-Some-clause-found
returns-in-Some-clause-found g c a =
    let m = rw c.in-Some.is at c.in_ok-met.ensures.met in
    found_met (g.N.Numbered.net c.args.net.now) c.args.first.now c.second_look.new.path c.in-Some.met _ _ m c.in_ok-close-in-Some.ensures.stem c.in_ok-close-in-Some.ensures.cycle a

pub returns-in_err-met-clause-most : goal.returns-in_err-met-clause-most
returns-in_err-met-clause-most g c =
    let p = c.marking.invariant.probing in
    most_probing (g.N.Numbered.net c.args.net.now) _ _ _ _ _ _ _ _ p.explored p.sized c.marking.invariant.looked _ (let t = c.if-path-pairs_at.true in let p = c.pairs_at.ensures in omega arith) c.second_look.ensures.looked

pub returns-in_err-close-in-Some-clause-most : goal.returns-in_err-close-in-Some-clause-most
returns-in_err-close-in-Some-clause-most g c =
    let p = c.marking.invariant.probing in
    most_probing (g.N.Numbered.net c.args.net.now) _ _ _ _ _ _ _ _ p.explored p.sized c.marking.invariant.looked _ (let t = c.if-path-pairs_at.true in let p = c.pairs_at.ensures in omega arith) c.second_look.ensures.looked

pub returns-in-Some-clause-most : goal.returns-in-Some-clause-most
returns-in-Some-clause-most g c =
    let p = c.marking.invariant.probing in
    most_probing (g.N.Numbered.net c.args.net.now) _ _ _ _ _ _ _ _ p.explored p.sized c.marking.invariant.looked _ (let t = c.if-path-pairs_at.true in let p = c.pairs_at.ensures in omega arith) c.second_look.ensures.looked

pub returns-then-not-step_back-clause-most : goal.returns-then-not-step_back-clause-most
returns-then-not-step_back-clause-most g c =
    let p = c.marking.invariant.probing in
    most_probed (g.N.Numbered.net c.args.net.now) _ _ _ _ _ _ _ _ p.explored p.sized c.marking.invariant.looked

pub returns-then-not-step_back-clause-probed : goal.returns-then-not-step_back-clause-probed
returns-then-not-step_back-clause-probed g c _ =
    let d : IsDone (g.N.Numbered.net c.args.net.now) c.marking.path = (let d = c.if-path-pairs_at.false in let p = c.pairs_at.ensures in omega arith) in
    ended (g.N.Numbered.net c.args.net.now) c.args.first.now c.marking.path _ _ c.marking.invariant.probing d (c.step_back.ensures.stays c.if-not-step_back.true) c.marking.invariant.enters

pub returns-then-not-step_back-clause-paid : goal.returns-then-not-step_back-clause-paid
returns-then-not-step_back-clause-paid g c _ =
    let l = c.marking.invariant.looked in
    let q = l.2 in
    let d : IsDone (g.N.Numbered.net c.args.net.now) c.marking.path = (let d = c.if-path-pairs_at.false in let p = c.pairs_at.ensures in omega arith) in
    let z = no_rest (g.N.Numbered.net c.args.net.now) _ c.marking.path.here c.marking.path.next (c.step_back.ensures.stays c.if-not-step_back.true) d in
    (l.0, l.1, omega arith)
