use Rattle.std.proofs.Common.{◌≡◌, Ok, None}
use Rattle.std.specs.Prelude.{Result, Err, IfOk}
use Rattle.ltl_check.specs.declared.verdict.Outcome.{Outcome}
use Rattle.ltl_check.specs.declared.verdict.Outcome.TheVariants.{Contained}
use Rattle.ltl_check.proofs.VerdictLaws.{none_verdict, paid_copies}
use Rattle.ltl_check.proofs.checking.search_product.Goals as goal

-- what isn't `Contained` has any consequence of it
never_contained : {A V E : Type 0} (outcome : V → Outcome A) (X : Type 0) (r : Result V E) → IfOk r (λ v. outcome v ≡ Contained → ⊥) → IfOk r (λ v. outcome v ≡ Contained → X)
never_contained outcome X (Err e) h = h
never_contained outcome X (Ok v) h = λ p. absurd (h p)

pub returns-in-None-clause-verdict : goal.returns-in-None-clause-verdict
returns-in-None-clause-verdict g c =
    let e : c.find.result ≡ Ok None = (let w = c.in_ok-found.was in let i = c.in-None.is in cc) in
    none_verdict (g.F.Operand.automaton_of c.args.product.now.first.now) c.args.formula.now.names c.args.product.now.second.now c.args.product.now.numbers.now c.invariant.ensures c.invariant-2.ensures c.requires.named c.requires.numbers (c.find.ensures.none e)

pub returns-in-None-clause-least : goal.returns-in-None-clause-least
returns-in-None-clause-least g c _ =
    let e : c.find.result ≡ Ok None = (let w = c.in_ok-found.was in let i = c.in-None.is in cc) in
    let l = c.find.ensures.least e in (
      l.0,
      l.1,
      paid_copies (g.F.Operand.automaton_of c.args.product.now.first.now) c.args.formula.now.names c.args.product.now.second.now c.args.product.now.numbers.now c.invariant.ensures c.invariant-2.ensures c.requires.named c.requires.numbers l.0 l.2,
    )

pub returns-in-Some-clause-least : goal.returns-in-Some-clause-least
returns-in-Some-clause-least g c = never_contained (λ v. v.outcome) _ c.violated.result c.violated.ensures.word
