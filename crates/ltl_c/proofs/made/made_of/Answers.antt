use Rattle.ltl_syntax.specs.FormulaView.{reading_of}
use Rattle.ltl_cli.specs.Translations.{automaton_in}
use Rattle.ltl_c.proofs.FoundLaws.{asked_text, both_found}
use Rattle.ltl_c.proofs.made.made_of.Goals as goal

pub returns-clause-made : goal.returns-clause-made
returns-clause-made g c =
    both_found c.args.text.now c.args.options.now c.layout_at.result c.layout_at.ensures c.in-Some.layout c.in-Some.is (reading_of c.in_ok-formula.formula) c.in_ok-formula.ensures.step
    (automaton_in c.in_ok-printable.printable) c.in_ok-printable.ensures.step

pub returns-clause-text : goal.returns-clause-text
returns-clause-text g c =
    asked_text c.args.text.now c.args.options.now c.layout_at.result c.layout_at.ensures c.in-Some.layout c.in-Some.is (reading_of c.in_ok-formula.formula)
    (automaton_in c.in_ok-printable.printable) _ c.in_ok-printable.ensures.text

pub returns-clause-named : goal.returns-clause-named
returns-clause-named g c = c.in_ok-printable.ensures.named c.args.text.now c.in_ok-formula.ensures.text
