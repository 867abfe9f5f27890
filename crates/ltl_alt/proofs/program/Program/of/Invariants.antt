use Rattle.std.proofs.Common.{◌≡◌, length}
use Rattle.ltl_alt.specs.Steps.{IsProgram}
use Rattle.ltl_alt.proofs.program.Program.of.Given as goal

abbrev pub invariant-rows : goal.invariant-rows
invariant-rows g l = record {
  count : length l.program.rows.items ≡ l.k;
  program : IsProgram l.table l.program.steps.keys l.program.rows.items;
}
