use Rattle.std.proofs.Common.{false, length, subst, sym, true}
use Rattle.ltl_spec.specs.Checking.Bounds.{HasLeavesBelow}
use Rattle.ltl_spec.proofs.Checking.BelowLaws.{core_below, generalized_below, parsed_below}
use Rattle.ltl_formula.specs.TableView.{core_of}
use Rattle.ltl_syntax.specs.FormulaView.{reading_of}
use Rattle.ltl_tests.proofs.checks.generalized_models.Goals as goal

-- the propositions of the automaton have names in the formula, since that was read from a text
pub returns : goal.returns
returns c =
    let n = length c.in_ok-formula.formula.names in
    let low = core_below n (reading_of c.in_ok-formula.formula).formula false true (parsed_below 5 _ _ c.in_ok-formula.ensures.1.1) in
    generalized_below n (core_of c.in_ok-table.table) (subst (HasLeavesBelow n) (sym c.in_ok-table.ensures.core) low) false _ c.in_ok-automaton.ensures.generalized
