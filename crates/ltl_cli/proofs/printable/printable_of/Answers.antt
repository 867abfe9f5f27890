use Rattle.ltl_syntax.specs.FormulaView.{reading_of}
use Rattle.ltl_words.specs.Plans.{layout_in}
use Rattle.ltl_cli.specs.Translations.{shown_in}
use Rattle.ltl_cli.proofs.AutomatonLaws.{shown_models}
use Rattle.ltl_cli.proofs.printable.printable_of.Goals as goal

pub returns-clause-models : goal.returns-clause-models
returns-clause-models g c =
    shown_models (layout_in c.args.layout) (reading_of c.args.formula.now) c.args.rewrite c.args.options.now (shown_in c.in_ok-automaton.automaton) c.in_ok-automaton.ensures.step
