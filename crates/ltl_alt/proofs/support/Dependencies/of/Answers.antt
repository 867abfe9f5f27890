use Rattle.std.proofs.Common.{length, ap, subst}
use Rattle.ltl_spec.proofs.Transitions.IndependenceTests.{Support}
use Rattle.ltl_alt.specs.SupportView.{CoversAllFulfilling}
use Rattle.ltl_alt.specs.TransitionView.{table_at}
use Rattle.ltl_alt.proofs.SupportLaws.{dependencies}
use Rattle.ltl_alt.proofs.support.Dependencies.of.Goals as goal

pub returns : goal.returns
returns g c =
    let T = table_at c.args.table.now in
    let targets = ap (λ (a : Support). a.targets) c.support.view_is in
    dependencies T c.args.pairs.now c.of-support.result c.fulfilling_of.result c.of-support.ensures
    (subst (λ ts. CoversAllFulfilling T ts (length T.untils) c.fulfilling_of.result) targets c.fulfilling_of.ensures)
