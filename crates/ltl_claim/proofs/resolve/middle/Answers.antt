use Rattle.std.proofs.Common.{◌-◌, ◌∙◌, arith, map, false, get_or}
use Rattle.ltl_claim.specs.declared.program.NamedStep.TheVariants as step
use Rattle.ltl_claim.specs.ProgramView.{step_of}
use Rattle.ltl_claim.proofs.MoveLaws.{ends_before, ends_here, wanted_more, wanted_small}
use Rattle.ltl_claim.proofs.resolve.middle.Goals as goal

pub steps-preserved : goal.steps-preserved
steps-preserved c =
    let within = c.steps.invariant.within in
    let some = c.if-at-gt0.true in
    record {
      within = omega (arith, within);
      wanted = c.wanted_before-wanted.ensures ∙ wanted_more c.args.steps.now c.steps.at c.steps.wanted (step.Constant false) some within c.steps.invariant.wanted;
      few =
          let e = c.wanted_before-wanted.ensures in
          let l = wanted_small (step_of (get_or c.args.steps.now (c.steps.at - 1) (step.Constant false))) c.steps.wanted in
          let f = c.steps.invariant.few in
          omega (arith, e, l, f, some);
      ends = ends_before (map step_of c.args.steps.now) c.steps.at c.steps.wanted c.steps.invariant.wanted c.steps-test.true some c.steps.invariant.ends;
    }

pub returns-after-steps-clause-exact : goal.returns-after-steps-clause-exact
returns-after-steps-clause-exact c = ends_here (map step_of c.args.steps.now) c.steps.at c.steps.wanted c.steps.invariant.wanted c.steps-test.false c.steps.invariant.ends
