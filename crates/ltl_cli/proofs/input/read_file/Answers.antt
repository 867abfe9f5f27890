use Rattle.std.proofs.Common.{subst, List, ℕ}
use Rattle.std.proofs.lemmas.Result.{err_from_is_err_and}
use Rattle.ltl_spec.specs.Tools.Outcome as spec
use Rattle.ltl_cli.specs.Inputs.{IsReadFrom}
use Rattle.ltl_cli.proofs.InputLaws.{file_from, file_refused, given_readable}
use Rattle.ltl_cli.proofs.input.read_file.Goals as goal

pub returns-in_err-text-clause-read : goal.returns-in_err-text-clause-read
returns-in_err-text-clause-read g c =
    let p = err_from_is_err_and c.from_residual.result c.from_residual.ensures.1 in
    rw (p.1, p.2) (file_refused _ _ _ c.in_err-text.ensures.ways)

pub returns-clause-read : goal.returns-clause-read
returns-clause-read g c =
    file_from _ _ _ _ c.in_ok-text.ensures.text c.in_ok-text.ensures.ways (subst (λ (t : List ℕ). IsReadFrom (spec.Given t) spec.NotOpened c.formula_of.result) c.as_slice.ensures.value c.formula_of.ensures.given)

pub returns-clause-failed : goal.returns-clause-failed
returns-clause-failed g c e = given_readable _ spec.NotOpened _ c.formula_of.ensures.given e
