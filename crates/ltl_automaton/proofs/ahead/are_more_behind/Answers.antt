use Rattle.std.proofs.Common.{◌≤◌, ◌∙◌, length, subst, arith}
use Rattle.ltl_automaton.specs.Net.{Net}
use Rattle.ltl_automaton.proofs.WayLaws.{behind_next}
use Rattle.ltl_automaton.proofs.ahead.are_more_behind.Goals as goal

pub returns-then-more-most-clause-more : goal.returns-then-more-most-clause-more
returns-then-more-most-clause-more g c = λ _.
    let N = g.S.Successors.net c.args.net.now in
    let step = behind_next N c.args.listing.now.keys c.things.place c.key.result.now c.key.ensures in
    let least = subst (λ (n : Net g.row.K.Denot). c.in_ok-more.more ≤ length (n.successors c.key.result.now)) c.things.invariant.net c.in_ok-more.ensures.least in
    let old = c.things.invariant.behind in
    let few = c.things.invariant.few in
    omega (arith, step, least, old, few, c.if-more-most.true)

pub things-preserved : goal.things-preserved
things-preserved g c =
    let N = g.S.Successors.net c.args.net.now in
    let step = behind_next N c.args.listing.now.keys c.things.place c.key.result.now c.key.ensures in
    let least = subst (λ (n : Net g.row.K.Denot). c.in_ok-more.more ≤ length (n.successors c.key.result.now)) c.things.invariant.net c.in_ok-more.ensures.least in
    let old = c.things.invariant.behind in
    let few = c.things.invariant.few in
    record {
      net = c.in_ok-more.ensures.same ∙ c.things.invariant.net;
      ready = c.in_ok-more.ensures.ready;
      few = omega (arith, few, c.if-more-most.false);
      behind = omega (arith, step, least, old);
    }
