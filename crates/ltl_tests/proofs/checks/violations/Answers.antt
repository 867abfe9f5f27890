use Rattle.std.proofs.Common.{true}
use Rattle.ltl_spec.specs.Tools.Programs.{plain_options}
use Rattle.ltl_spec.proofs.Checking.BelowLaws.{translation_named}
use Rattle.ltl_syntax.specs.FormulaView.{reading_of}
use Rattle.ltl_tests.proofs.checks.violations.Goals as goal

-- the propositions of the automaton have names in the formula, since that was read from a text
pub returns : goal.returns
returns c =
    translation_named _ (reading_of c.in_ok-formula.formula) c.in_ok-formula.ensures.1 true true _ c.in_ok-table.ensures.core plain_options c.in_ok-automaton.automaton
    c.in_ok-automaton.ensures.definition
