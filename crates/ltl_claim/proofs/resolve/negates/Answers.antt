use Rattle.std.proofs.Common.{◌∙◌, ◌<◌, ap, sym, arith, map, length, get_or, false}
use Rattle.std.proofs.lemmas.List.{get_or-map}
use Rattle.ltl_claim.specs.declared.program.NamedStep.TheVariants as step
use Rattle.ltl_claim.specs.ProgramView.{NotStep, step_of}
use Rattle.ltl_claim.specs.ResolveView.{same_step}
use Rattle.ltl_claim.proofs.MoveLaws.{negates_by, other_last, other_length, same_step_exact}
use Rattle.ltl_claim.proofs.ProgramLaws.{mapped_length}
use Rattle.ltl_claim.proofs.resolve.negates.Goals as goal

pub returns-then-second-first : goal.returns-then-second-first
returns-then-second-first c =
    other_length (map step_of c.args.first.now) (map step_of c.args.second.now) (length c.args.first.now) (length c.args.second.now) (sym (mapped_length step_of c.args.first.now))
    (sym (mapped_length step_of c.args.second.now)) (λ q. let h = c.if-second-first.true in omega (arith, q, h))

pub returns-then-not-is_same : goal.returns-then-not-is_same
returns-then-not-is_same c =
    let n = length c.args.first.now in
    let inside : n < length c.args.second.now = let h = c.if-second-first.false in omega (arith, h) in
    other_last (map step_of c.args.first.now) (map step_of c.args.second.now) n (sym (mapped_length step_of c.args.first.now))
    (ap (λ s. same_step s NotStep) (get_or-map step_of c.args.second.now n (step.Constant false) NotStep inside) ∙ sym c.is_same.ensures ∙ c.if-not-is_same.true)

pub returns : goal.returns
returns c =
    let n = length c.args.first.now in
    let h = c.if-second-first.false in
    let k = mapped_length step_of c.args.second.now in
    let inside : n < length c.args.second.now = omega (arith, h) in
    negates_by (map step_of c.args.first.now) (map step_of c.args.second.now) n c.begins_with.result (sym (mapped_length step_of c.args.first.now)) (omega (arith, h, k))
    (get_or-map step_of c.args.second.now n (step.Constant false) NotStep inside
    ∙ same_step_exact (step_of (get_or c.args.second.now n (step.Constant false))) NotStep (sym c.is_same.ensures ∙ c.if-not-is_same.false))
    c.begins_with.ensures.same c.begins_with.ensures.other
