use Rattle.std.proofs.Common.{arith}
use Rattle.ltl_alt.proofs.ColumnLaws.{below_ends, below_next}
use Rattle.ltl_alt.proofs.columns.everyone.Goals as goal

pub pairs-init : goal.pairs-init
pairs-init c = λ j l. absurd (omega arith)

pub pairs-preserved : goal.pairs-preserved
pairs-preserved c = below_next c.pairs.j c.pairs.column c.insert.new.self c.insert.ensures c.pairs.invariant

pub returns : goal.returns
returns c = below_ends c.args.block.now c.pairs.j c.pairs.column (omega arith) c.pairs.invariant
