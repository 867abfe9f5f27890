use Rattle.std.proofs.lemmas.Result.{err_from_is_err_and}
use Rattle.ltl_syntax.specs.FormulaView.{reading_of}
use Rattle.ltl_cli.specs.Translations.{automaton_in, text_of}
use Rattle.ltl_c.proofs.FoundLaws.{made_not_printed, made_printed}
use Rattle.ltl_c.proofs.text.printed.Goals as goal

pub returns-in_err-made : goal.returns-in_err-made
returns-in_err-made g c =
    let p = err_from_is_err_and c.from_residual.result c.from_residual.ensures.1 in
    rw (p.1, p.2) (made_not_printed c.args.formula.now c.args.options.now _ c.in_err-made.ensures.made)

pub returns : goal.returns
returns g c =
    made_printed c.args.formula.now c.args.options.now (reading_of c.in_ok-made.made.formula) (automaton_in c.in_ok-made.made.printable) c.in_ok-made.ensures.made (λ v. v.items)
    (text_of c.in_ok-made.made.printable c.in_ok-made.made.formula) c.in_ok-made.ensures.text c.text_in.result c.text_in.ensures
