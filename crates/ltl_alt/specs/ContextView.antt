-- What every list of pairs of a step is made from.
use Rattle.ltl_alt.specs.declared.context.Context.{Context}
use Rattle.ltl_alt.specs.declared.fulfilment.Fulfilment.{Fulfilment}
use Rattle.ltl_alt.specs.declared.program.Program.{Program}
use Rattle.ltl_alt.specs.Steps.{IsWholeProgram}
use Rattle.ltl_alt.specs.Tests.{AreTests}
use Rattle.ltl_alt.specs.TransitionView.{table_at}
use Rattle.ltl_formula.specs.TableView.{TableView}

-- the steps of all rows and the tests of all until rows
pub record IsContextOf {A : Type 0} (t : TableView) (p : Program A) (f : Fulfilment A) : Type 0 where
  pub program : IsWholeProgram t p.steps.keys p.rows.items
  pub tests : AreTests (table_at t) f

abbrev pub IsContext : {A : Type 0} → Context A → Type 0
IsContext c = IsContextOf c.table.now c.program.now c.pruning.fulfilment.now
