use Rattle.std.proofs.Common.{◌≡◌, length}
use Rattle.std.specs.Prelude.{take}
use Rattle.ltl_passes.specs.Partition.{IsNumbering}
use Rattle.ltl_passes.proofs.quotient.number_classes.Given as goal

abbrev pub invariant-loop-s : goal.invariant-loop-s
invariant-loop-s g l = record {
  long : length l.numbers.items ≡ l.s;
  numbering : IsNumbering (take l.s l.names) l.classes.items l.numbers.items;
}
