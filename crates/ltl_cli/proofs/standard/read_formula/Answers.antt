use Rattle.std.proofs.Common.{ap, subst, List, ℕ}
use Rattle.ltl_spec.specs.Tools.Outcome as spec
use Rattle.ltl_cli.specs.Inputs.{IsReadFrom, bytes_of, most_taken}
use Rattle.ltl_cli.proofs.InputLaws.{given_readable, lent_before, some_input}
use Rattle.ltl_cli.proofs.StreamLaws.{takes_none}
use Rattle.ltl_cli.proofs.standard.read_formula.Goals as goal

pub returns-in-Given-clause-read : goal.returns-in-Given-clause-read
returns-in-Given-clause-read g c =
    let (input, s) = some_input g.R.Read.remaining c.args.source.now in
    (input, s, rw c.in-Given.is (subst (λ (t : List ℕ). IsReadFrom (spec.Given t) input c.formula_of.result) c.as_bytes.ensures.value c.formula_of.ensures.given))

pub returns-in-Given-clause-few : goal.returns-in-Given-clause-few
returns-in-Given-clause-few g c = takes_none most_taken (bytes_of g.R.Read.remaining c.args.source.now)

pub returns-in-Given-clause-failed : goal.returns-in-Given-clause-failed
returns-in-Given-clause-failed g c e = given_readable _ spec.NotOpened _ c.formula_of.ensures.given e

pub returns-in-Input-clause-read : goal.returns-in-Input-clause-read
returns-in-Input-clause-read g c =
    let (input, s, h) = c.read_file.ensures.read in
    rw (c.in-Input.is, c.in-File.is) (input, lent_before most_taken _ _ _ input (ap g.R.Read.remaining c.new.ensures.now) s, h)
