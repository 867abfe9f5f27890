use Rattle.std.proofs.Common.{subst, List, ℕ}
use Rattle.ltl_spec.specs.Tools.Outcome as spec
use Rattle.ltl_cli.specs.Inputs.{IsReadFrom, most_taken}
use Rattle.ltl_cli.proofs.InputLaws.{unread}
use Rattle.ltl_cli.proofs.input.formula_from.Goals as goal

pub returns-in-Given-clause-read : goal.returns-in-Given-clause-read
returns-in-Given-clause-read g c =
    let (input, s) = unread most_taken g.R.ByteSource.state c.args.source.now c.requires in
    (input, s, rw c.in-Given.is (subst (λ (t : List ℕ). IsReadFrom (spec.Given t) input c.formula_of.result) c.as_bytes.ensures.value c.formula_of.ensures.given))
