use Rattle.std.proofs.Common.{◌<◌, ◌∙◌, ap, arith, length, subst}
use Rattle.std.specs.Prelude.{slice_set}
use Rattle.ltl_spec.proofs.Transitions.IndependenceTests.{Support, no_support, together}
use Rattle.ltl_alt.proofs.WantedLaws.{AreMoreBut, more_begins, more_ends, more_past, more_step}
use Rattle.ltl_alt.proofs.NeedsLaws.{same_default}
use Rattle.ltl_alt.proofs.wanted.lack_more.Goals as goal

pub pairs-init : goal.pairs-init
pairs-init g c = more_begins c.args.leaves.now c.args.lacks.now.items c.args.pairs.now c.iter-rest.result c.iter-rest.ensures.members

pub pairs-preserved-then-j-len : goal.pairs-preserved-then-j-len
pairs-preserved-then-j-len g c =
    let leaves = c.args.leaves.now in
    let now = c.pairs.lacks.items in
    let j = c.in-Some.j in
    let inside : j < length now = omega arith in
    more_step leaves c.args.lacks.now.items c.args.pairs.now c.pairs.rest c.next.new.self j now c.in-Some.ensures.steps c.pairs.invariant (slice_set now j c.together.result) inside
    (ap (slice_set now j) (c.together.ensures ∙ ap (λ (v : Support). together v leaves) (c.index.ensures ∙ same_default now j c.index.result.now no_support inside)))

pub pairs-preserved : goal.pairs-preserved
pairs-preserved g c =
    more_past c.args.leaves.now c.args.lacks.now.items c.args.pairs.now c.pairs.rest c.next.new.self c.in-Some.j c.pairs.lacks.items c.in-Some.ensures.steps c.pairs.invariant (omega arith)

pub returns : goal.returns
returns g c =
    let leaves = c.args.leaves.now in
    let old = c.args.lacks.now.items in
    let js = c.args.pairs.now in
    more_ends leaves old js c.pairs.lacks.items (subst (λ rest. AreMoreBut leaves old js rest c.pairs.lacks.items) c.in_default.ensures.steps.0 c.pairs.invariant)
