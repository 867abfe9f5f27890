use Rattle.std.proofs.Common.{arith}
use Rattle.least.proofs.BlockLaws.{all_done, all_more}
use Rattle.least.proofs.block.everyone.Goals as goal

pub indices-preserved : goal.indices-preserved
indices-preserved c = all_more c.indices.j c.indices.all c.insert.new.self c.insert.ensures c.indices.invariant

pub returns : goal.returns
returns c = all_done c.args.count c.indices.j c.indices.all (omega arith) c.indices.invariant
