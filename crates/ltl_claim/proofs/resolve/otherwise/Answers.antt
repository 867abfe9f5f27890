use Rattle.std.proofs.Common.{◌∙◌, ap, List, [], ◌∷◌, ◌++◌, map}
use Rattle.ltl_spec.specs.Semantics.Word.{Name}
use Rattle.ltl_claim.specs.declared.claim.GuardStep.TheVariants as step
use Rattle.ltl_claim.proofs.OptionLaws.{joined_none, joined_some, joins_next}
use Rattle.ltl_claim.proofs.resolve.otherwise.Goals.{then-not-some+in_ok-push, else-not-some}
use Rattle.ltl_claim.proofs.resolve.otherwise.Goals as goal

pub options-preserved : goal.options-preserved
options-preserved g c = λ P.
    let names : List Name = map (λ k. k.now) c.args.names.now.keys in
    joins_next P names c.args.options.now c.options.i c.index-options-i.result c.options.some c.in_ok-some.some c.options.made.items c.put_alternative.new.made.items
    c.index-options-i.is c.options-test.true (c.in_ok-some.ensures P) (c.options.invariant P)

pub returns : goal.returns
returns g c = λ P.
    let names : List Name = map (λ k. k.now) c.args.names.now.keys in
    elim c.if-not-some.branch [
      | then-not-some+in_ok-push w ↦
          joined_none P names c.args.options.now c.options.i c.options.some c.options.made.items c.if-not-some.made.items c.push-2.new.self.items (c.options.invariant P) c.options-test.false w.if-not-some.true
          (ap (λ v. v.items) w.made-is ∙ w.in_ok-push.ensures.items) c.in_ok-push-2.ensures.items
      | else-not-some w ↦
          joined_some P names c.args.options.now c.options.i c.options.some c.options.made.items c.push-2.new.self.items (c.options.invariant P) c.options-test.false w.if-not-some.false
          (c.in_ok-push-2.ensures.items ∙ ap (λ v. v.items ++ step.Not ∷ []) w.made-is)
    ]
