use Rattle.std.proofs.Common.{arith}
use Rattle.ltl_check.specs.Shrunk.{bare}
use Rattle.ltl_check.proofs.ShrunkLaws.{bare_more, mapped_all, mapped_none}
use Rattle.ltl_check.proofs.draft.push_bare.Goals as goal

pub loop-i-init : goal.loop-i-init
loop-i-init g c = mapped_none (bare c.args.p) c.args.letters.now.items c.args.with.now

pub loop-i-preserved : goal.loop-i-preserved
loop-i-preserved g c =
    bare_more c.args.p c.args.with.now c.loop-i.i c.loop-i.letters.items _ c.args.letters.now.items c.index-with-i.result c.without.result c.single-gone.result (omega arith) c.index-with-i.is c.loop-i.invariant c.single-gone.ensures c.without.ensures c.in_ok-push.ensures.items

pub returns : goal.returns
returns g c = mapped_all (bare c.args.p) c.args.with.now c.loop-i.i _ c.args.letters.now.items (omega arith) c.loop-i.invariant
