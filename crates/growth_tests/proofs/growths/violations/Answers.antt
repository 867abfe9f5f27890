use Rattle.std.proofs.Common.{true}
use Rattle.ltl_spec.specs.Tools.Programs.{plain_options}
use Rattle.ltl_spec.proofs.Checking.BelowLaws.{translation_named}
use Rattle.ltl_syntax.specs.FormulaView.{reading_of}
use Rattle.growth_tests.proofs.growths.violations.Goals as goal

-- the propositions of the automaton have names in the formula, since that was read from a text
pub returns : goal.returns
returns c =
    translation_named _ (reading_of c.in-Ok.formula) c.in-Ok.ensures.1 true true _ c.in-Ok-build.ensures.core plain_options c.in-Ok-translate.automaton
    c.in-Ok-translate.ensures.definition
