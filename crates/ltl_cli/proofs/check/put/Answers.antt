use Rattle.std.proofs.Common.{codes, refl}
use Rattle.ltl_spec.specs.Automata.ClaimText.{line}
use Rattle.ltl_spec.specs.Words.LassoText.{lasso_text}
use Rattle.ltl_streams.proofs.PrintLaws.{lacks_all, lacks_last, lacks_step}
use Rattle.ltl_cli.proofs.check.put.Goals as goal

pub returns-in-Violated : goal.returns-in-Violated
returns-in-Violated g c =
    let first = lacks_step (lacks_all _ _) (line (lasso_text c.in-Violated.word)) refl c.put-in-Violated.ensures in
    let second = lacks_step first (codes "\n") refl c.put-in-Violated-2.ensures in
    rw c.in-Violated.is (lacks_last second c.put-in-Violated-3.ensures)
