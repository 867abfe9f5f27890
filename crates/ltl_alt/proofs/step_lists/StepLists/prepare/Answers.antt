use Rattle.std.proofs.Common.{◌<◌, [], ◌∙◌, arith, false, inl, inr, length, refl, subst, sym}
use Rattle.ltl_spec.proofs.Transitions.WantedSteps.{AreWantedFrom}
use Rattle.ltl_alt.specs.Tests.{AreEarlier, steps_of}
use Rattle.ltl_alt.proofs.NeedsLaws.{same_default}
use Rattle.ltl_alt.proofs.ProgramLaws.{inside}
use Rattle.ltl_alt.proofs.StepListLaws.{made_step, operands_made}
use Rattle.ltl_alt.proofs.step_lists.StepLists.prepare.Goals as goal

pub needed_steps-requires-clause-earlier : goal.needed_steps-requires-clause-earlier
needed_steps-requires-clause-earlier g c = subst (λ xs. AreEarlier (steps_of xs)) (sym c.steps.ensures) c.requires.ordered.earlier

pub needed_steps-requires-clause-inside : goal.needed_steps-requires-clause-inside
needed_steps-requires-clause-inside g c = λ k h. subst (λ xs. k < length xs) (sym c.steps.ensures) (elim h [ inl e ↦ subst (λ x. x < length c.args.context.now.program.now.steps.keys) (sym e) c.requires.within | inr z ↦ absurd z ])

pub list_if-requires-clause-operands : goal.list_if-requires-clause-operands
list_if-requires-clause-operands g c =
    let ss = c.args.context.now.program.now.steps.keys in
    let ns = c.in_ok-needed.needed.items in
    let k = c.below.k in
    let a : AreWantedFrom 0 [] (steps_of ss) ns = subst (λ xs. AreWantedFrom 0 [] (steps_of xs) ns) c.steps.ensures c.in_ok-needed.ensures.operands in
    let count = a.count in
    let long = inside ss in
    let within = c.requires.within in
    let test = c.below-test.true in
    let here : k < length ss = omega (arith, within, test) in
    let there : k < length ns = omega (arith, count, long, here) in
    λ on. operands_made ss ns c.below.self.lists.items k c.requires.ordered a c.below.invariant.made here (sym (c.index.ensures ∙ same_default ns k _ false there) ∙ on)

pub below-preserved : goal.below-preserved
below-preserved g c =
    let ss = c.args.context.now.program.now.steps.keys in
    let ns = c.in_ok-needed.needed.items in
    let k = c.below.k in
    let a : AreWantedFrom 0 [] (steps_of ss) ns = subst (λ xs. AreWantedFrom 0 [] (steps_of xs) ns) c.steps.ensures c.in_ok-needed.ensures.operands in
    let count = a.count in
    let long = inside ss in
    let within = c.requires.within in
    let test = c.below-test.true in
    let there : k < length ns = omega (arith, count, long, within, test) in
    record {
      lists = c.in_ok-list_if.ensures.lists;
      made = made_step ns k c.below.self.lists.items c.list_if.new.self.lists.items c.index.result.now (c.index.ensures ∙ same_default ns k _ _ there) there c.below.invariant.made c.in_ok-list_if.ensures.more c.in_ok-list_if.ensures.made;
    }

pub returns-clause-pairs : goal.returns-clause-pairs
returns-clause-pairs g c =
    let k = c.args.step in
    let past = c.below-test.false in
    let end : k < c.below.k = omega (arith, past) in
    c.below.invariant.lists.each k (c.below.invariant.made k end (c.in_ok-needed.ensures.asked k (inl refl)))
