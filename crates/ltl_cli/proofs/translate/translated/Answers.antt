use Rattle.std.proofs.lemmas.Result.{err_from_is_err_and}
use Rattle.ltl_syntax.specs.FormulaView.{reading_of}
use Rattle.ltl_cli.proofs.InputLaws.{read_same, refused_same}
use Rattle.ltl_cli.proofs.TranslationLaws.{formula_refused, not_shown, shown_prints}
use Rattle.ltl_cli.proofs.translate.translated.Goals as goal

pub returns-in_err-formula-clause-found : goal.returns-in_err-formula-clause-found
returns-in_err-formula-clause-found g c =
    let (input, s, refused) = c.in_err-formula.ensures.read in
    let p = err_from_is_err_and c.from_residual.result c.from_residual.ensures.1 in
    (input, s, rw (p.1, p.2) (formula_refused c.args.plan.now input c.in_err-formula.field-0.0 (refused_same _ _ c.formula.ensures input c.in_err-formula.field-0.0 refused)))

pub returns-in_err-automaton-clause-found : goal.returns-in_err-automaton-clause-found
returns-in_err-automaton-clause-found g c =
    let (input, s, h) = c.in_ok-formula.ensures.read in
    let reads = read_same _ _ c.formula.ensures input (reading_of c.in_ok-formula.formula) h in
    let p = err_from_is_err_and c.from_residual-in_err-automaton.result c.from_residual-in_err-automaton.ensures.1 in
    (input, s, rw (p.1, p.2) (not_shown c.args.plan.now input c.in_ok-formula.formula reads _ _ _ c.layout.ensures c.rewrite.ensures c.options.ensures _ c.in_err-automaton.ensures.step))

pub returns-clause-found : goal.returns-clause-found
returns-clause-found g c =
    let (input, s, h) = c.in_ok-formula.ensures.read in
    let reads = read_same _ _ c.formula.ensures input (reading_of c.in_ok-formula.formula) h in
    (input, s, shown_prints c.args.plan.now input c.in_ok-formula.formula reads _ _ _ c.layout.ensures c.rewrite.ensures c.options.ensures _ _ c.in_ok-automaton.ensures.step c.in_ok-automaton.ensures.text)
