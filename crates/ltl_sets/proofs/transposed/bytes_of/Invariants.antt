use Rattle.std.proofs.Common.{◌≡◌, length, take}
use Rattle.ltl_sets.specs.Transposed.{AreBytes}
use Rattle.ltl_sets.proofs.transposed.bytes_of.Given as goal
use Rattle.ltl_sets.specs.declared.row_set.TheConstants.RowSet.{LIMIT}

abbrev pub invariant-sets : goal.invariant-sets
invariant-sets l = record {
  long : length l.bytes ≡ LIMIT;
  read : AreBytes (take l.j l.fn.sets) l.k l.bytes;
}
