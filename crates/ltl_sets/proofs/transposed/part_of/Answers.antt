use Rattle.std.proofs.Common.{◌-◌, ◌*◌, arith}
use Rattle.ltl_sets.proofs.TransposedLaws.{part_is}
use Rattle.ltl_sets.proofs.transposed.part_of.Goals as goal
use Rattle.ltl_sets.specs.declared.row_set.TheConstants.RowSet.{LIMIT}

pub returns : goal.returns
returns c j h = part_is c.args.bytes.now (64 * c.args.part) (LIMIT - 64 * c.args.part) j (omega (arith, c.requires)) h
