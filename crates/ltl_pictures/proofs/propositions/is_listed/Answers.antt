use Rattle.std.proofs.Common.{arith}
use Rattle.ltl_pictures.proofs.NameLaws.{found_here, not_here, nowhere}
use Rattle.ltl_pictures.proofs.propositions.is_listed.Goals as goal

pub returns-then-is_same : goal.returns-then-is_same
returns-then-is_same c = found_here c.args.name.now c.args.names.now c.loop-k.k _ c.loop-k.invariant _ c.is_same.result (omega arith) c.is_same.ensures c.if-is_same.true

pub loop-k-preserved : goal.loop-k-preserved
loop-k-preserved c = not_here c.args.name.now c.args.names.now c.loop-k.k _ c.loop-k.invariant _ c.is_same.result (omega arith) c.is_same.ensures c.if-is_same.false

pub returns : goal.returns
returns c = nowhere c.args.name.now c.args.names.now c.loop-k.k _ c.loop-k.invariant (omega arith)
