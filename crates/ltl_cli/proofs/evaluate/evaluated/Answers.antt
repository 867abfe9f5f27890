use Rattle.std.proofs.Common.{subst, List, ℕ}
use Rattle.ltl_word.specs.ReadText.{IsReadAs, IsRefusedFor}
use Rattle.std.proofs.lemmas.Result.{err_from_is_err_and}
use Rattle.ltl_syntax.specs.FormulaView.{reading_of}
use Rattle.ltl_cli.proofs.InputLaws.{read_same, refused_same}
use Rattle.ltl_cli.proofs.EvaluationLaws.{formula_refused, word_refused, short_evaluation, found}
use Rattle.ltl_cli.proofs.evaluate.evaluated.Goals as goal

pub returns-in_err-formula : goal.returns-in_err-formula
returns-in_err-formula g c =
    let (input, s, h) = c.in_err-formula.ensures.read in
    let p = err_from_is_err_and c.from_residual.result c.from_residual.ensures.1 in
    (input, s, rw (p.1, p.2) (formula_refused c.args.plan.now c.args.text.now input c.in_err-formula.field-0.0 (refused_same _ _ c.formula.ensures input c.in_err-formula.field-0.0 h)))

pub returns-in_err-word : goal.returns-in_err-word
returns-in_err-word g c =
    let (input, s, h) = c.in_ok-formula.ensures.read in
    let reads = read_same _ _ c.formula.ensures input (reading_of c.in_ok-formula.formula) h in
    let p = err_from_is_err_and c.from_residual-in_err-word.result c.from_residual-in_err-word.ensures.1 in
    (input, s, rw p.1 (word_refused c.args.plan.now c.args.text.now input c.in_ok-formula.formula reads _ _ p.2 (subst (λ (t : List ℕ). IsRefusedFor c.in_ok-formula.formula.names t c.in_err-word.field-0.0) c.as_bytes.ensures.value c.in_err-word.ensures)))

pub returns-in_err-truth : goal.returns-in_err-truth
returns-in_err-truth g c =
    let (input, s, h) = c.in_ok-formula.ensures.read in
    let reads = read_same _ _ c.formula.ensures input (reading_of c.in_ok-formula.formula) h in
    let p = err_from_is_err_and c.from_residual-in_err-truth.result c.from_residual-in_err-truth.ensures.1 in
    (input, s, rw p.1 (short_evaluation c.args.plan.now c.args.text.now input c.in_ok-formula.formula reads _ p.2))

pub returns : goal.returns
returns g c =
    let (input, s, h) = c.in_ok-formula.ensures.read in
    let reads = read_same _ _ c.formula.ensures input (reading_of c.in_ok-formula.formula) h in
    (input, s, found c.args.plan.now c.args.text.now input c.in_ok-formula.formula reads c.in_ok-word.word c.in_ok-truth.truth (subst (λ (t : List ℕ). IsReadAs c.in_ok-formula.formula.names t c.in_ok-word.word) c.as_bytes.ensures.value c.in_ok-word.ensures) c.in_ok-truth.ensures)
