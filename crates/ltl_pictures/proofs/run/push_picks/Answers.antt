use Rattle.std.proofs.Common.{arith}
use Rattle.ltl_pictures.specs.Picks.{pick_of}
use Rattle.ltl_check.proofs.ShrunkLaws.{mapped_all, mapped_more, mapped_none}
use Rattle.ltl_pictures.proofs.run.push_picks.Goals as goal

pub loop-k-init : goal.loop-k-init
loop-k-init g c = mapped_none (pick_of c.args.states) c.args.picks.now.items c.args.steps.now

pub loop-k-preserved : goal.loop-k-preserved
loop-k-preserved g c =
    mapped_more (pick_of c.args.states) c.args.steps.now c.loop-k.k c.loop-k.picks.items _ c.args.picks.now.items c.index-steps-k.result (omega arith) c.index-steps-k.is c.loop-k.invariant c.in_ok-push.ensures.items

pub returns : goal.returns
returns g c = mapped_all (pick_of c.args.states) c.args.steps.now c.loop-k.k _ c.args.picks.now.items (omega arith) c.loop-k.invariant
