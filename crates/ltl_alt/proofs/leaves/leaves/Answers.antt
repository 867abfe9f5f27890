use Rattle.std.proofs.Common.{◌<◌, ◌∙◌, [], ap, arith, length, subst, sym}
use Rattle.std.specs.Prelude.{slice_index_or}
use Rattle.std.proofs.lemmas.List.{take_all}
use Rattle.std.proofs.lemmas.Option.{slice_get-get_or}
use Rattle.ltl_spec.proofs.Transitions.SupportTests.{AllTell, none_tell, step_leaves}
use Rattle.ltl_alt.specs.Tests.{AreLeaves, step_of}
use Rattle.ltl_alt.specs.declared.program.Step.{Step}
use Rattle.ltl_alt.specs.declared.program.Step.TheVariants as step
use Rattle.ltl_alt.proofs.FulfilLaws.{leaves_step}
use Rattle.ltl_alt.proofs.NeedsLaws.{same_default}
use Rattle.ltl_alt.proofs.leaves.leaves.Goals as goal

pub steps-init : goal.steps-init
steps-init g c = record { count = ap length c.in_ok-all.ensures.items; tell = subst (λ xs. AllTell xs []) (sym c.in_ok-all.ensures.items) none_tell }

pub step_leaves-leaves-requires : goal.step_leaves-leaves-requires
step_leaves-leaves-requires g c =
    let ss = c.args.steps.now in
    let k = c.steps.k in
    let inside : k < length ss = c.steps-test.true in
    c.requires k (slice_index_or ss k step.Always) (slice_get-get_or ss k step.Always inside)

pub steps-preserved : goal.steps-preserved
steps-preserved g c =
    let ss = c.args.steps.now in
    let k = c.steps.k in
    let s : Step = slice_index_or ss k step.Always in
    let inside : k < length ss = c.steps-test.true in
    leaves_step ss k s c.steps.all.items c.push.new.self.items c.step_leaves-leaves.result inside (same_default ss k step.Always s inside) c.in_ok-push.ensures.items
    (c.step_leaves-leaves.ensures ∙ ap (λ vs. step_leaves vs (step_of s)) c.as_slice.ensures.value) c.steps.invariant

pub returns : goal.returns
returns g c =
    let ss = c.args.steps.now in
    subst (λ xs. AreLeaves xs c.steps.all.items) (take_all c.steps.k ss (omega arith)) c.steps.invariant
