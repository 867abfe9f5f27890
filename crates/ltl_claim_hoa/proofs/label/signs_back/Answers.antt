use Rattle.std.proofs.Common.{arith, ap, ◌∙◌, ◌++◌, ◌∷◌, []}
use Rattle.std.specs.Prelude.{take}
use Rattle.ltl_claim_hoa.specs.declared.label.Task.TheVariants.{Operand}
use Rattle.ltl_claim_hoa.proofs.LabelLaws.{operand_unfolded, sign_written, some_left, tasks_begin}
use Rattle.ltl_claim_hoa.proofs.label.signs_back.Goals as goal

pub tasks-init : goal.tasks-init
tasks-init g c = record {
  inside = omega arith;
  stands = λ names k e.
      tasks_begin names k c.args.steps.now _ _ e (c.in_ok-push.ensures.items ∙ ap (λ xs. xs ++ Operand 2 ∷ []) c.new-tasks.ensures.items) c.new-signs.ensures.items;
}

pub tasks-preserved-in-Continue-branch-2 : goal.tasks-preserved-in-Continue-branch-2
tasks-preserved-in-Continue-branch-2 g c = record {
  inside = c.tasks.invariant.inside;
  stands = λ names k e.
      sign_written names k c.tasks.tasks.items c.pop.new.self.items (take c.tasks.at c.args.steps.now) _ _ c.in-Sign.sign (c.in-Some.ensures.items ∙ ap (λ t. c.pop.new.self.items ++ t ∷ []) c.in-Sign.is)
      c.in_ok-push-in-Sign.ensures.items (c.tasks.invariant.stands names k e);
}

pub returns-then-at-eq0 : goal.returns-then-at-eq0
returns-then-at-eq0 g c = λ names k e.
    absurd (some_left names k c.tasks.tasks.items c.pop.new.self.items c.args.steps.now c.tasks.at c.in-Operand.most c.tasks.signs.items (c.in-Some.ensures.items ∙ ap (λ t. c.pop.new.self.items ++ t ∷ []) c.in-Operand.is)
    c.if-at-eq0.true (c.tasks.invariant.stands names k e))

pub tasks-preserved : goal.tasks-preserved
tasks-preserved g c = record {
  inside = (let l = c.tasks.invariant.inside in omega (arith, l));
  stands = λ names k e.
      operand_unfolded names k c.tasks.tasks.items c.pop.new.self.items c.expand.new.tasks.items c.args.steps.now c.tasks.at c.in-Operand.most c.tasks.signs.items _ c.tasks.invariant.inside
      (c.in-Some.ensures.items ∙ ap (λ t. c.pop.new.self.items ++ t ∷ []) c.in-Operand.is) c.in_ok-expand-in-Operand.ensures (c.tasks.invariant.stands names k e);
}
