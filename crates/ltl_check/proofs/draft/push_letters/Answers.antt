use Rattle.std.proofs.Common.{arith}
use Rattle.ltl_check.specs.declared.walk.Taken.{Taken}
use Rattle.ltl_check.proofs.ShrunkLaws.{mapped_all, mapped_more, mapped_none}
use Rattle.ltl_check.proofs.draft.push_letters.Goals as goal

pub loop-i-init : goal.loop-i-init
loop-i-init g c = mapped_none (λ (t : Taken). t.letter) c.args.letters.now.items c.args.steps.now

pub loop-i-preserved : goal.loop-i-preserved
loop-i-preserved g c =
    mapped_more (λ (t : Taken). t.letter) c.args.steps.now c.loop-i.i c.loop-i.letters.items _ c.args.letters.now.items c.index-steps-i.result (omega arith) c.index-steps-i.is c.loop-i.invariant c.in_ok-push.ensures.items

pub returns : goal.returns
returns g c = mapped_all (λ (t : Taken). t.letter) c.args.steps.now c.loop-i.i _ c.args.letters.now.items (omega arith) c.loop-i.invariant
