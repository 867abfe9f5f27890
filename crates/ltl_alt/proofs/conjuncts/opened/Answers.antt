use Rattle.std.specs.Prelude.{slice_index_or}
use Rattle.ltl_alt.specs.declared.program.Step.TheVariants as step
use Rattle.ltl_alt.proofs.ConjunctLaws.{both_opened}
use Rattle.ltl_alt.proofs.NeedsLaws.{same_default}
use Rattle.ltl_alt.proofs.conjuncts.opened.Goals as goal

pub returns-then-is_open-clause-conjuncts : goal.returns-then-is_open-clause-conjuncts
returns-then-is_open-clause-conjuncts c =
    let ss = c.args.steps.now in
    let k = c.args.conjunct in
    both_opened ss k c.in-Both.left c.in-Both.right (slice_index_or ss k step.Always) c.requires.ordered c.requires.within (same_default ss k step.Always _ c.requires.within) c.in-Both.is
