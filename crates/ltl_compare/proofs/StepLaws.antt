-- The steps of a comparison, one after the other.
use Rattle.std.proofs.Common.{◌≡◌, ◌∙◌, ap, subst, refl, ℕ, ◌*◌, ◌+◌, ◌<◌, ◌≤◌, true, false, inl, inr, ◌⊎◌, length, Option, arith}
use Rattle.std.specs.Prelude.{Result, Ok, Err}
use Rattle.ltl_spec.specs.Formulas.Formula.{Reading}
use Rattle.ltl_spec.specs.Formulas.Names.{unified}
use Rattle.ltl_spec.specs.Semantics.Word.{Lasso}
use Rattle.ltl_spec.specs.Automata.Automaton.{Automaton}
use Rattle.ltl_spec.specs.Hoa.HoaReading.{MarkedAutomaton}
use Rattle.ltl_spec.specs.Checking.Check.{product_size}
use Rattle.ltl_spec.specs.Checking.Comparison as spec
use Rattle.ltl_spec.specs.Tools.Limits.{stated_limits}
use Rattle.ltl_spec.specs.Tools.Refusal as refusal
use Rattle.ltl_spec.specs.Tools.Comparison.{Compares, FindsEntailment, MakesAutomaton, Separates}
use Rattle.ltl_spec.proofs.Checking.EntailmentLaws as entailment
use Rattle.ltl_syntax.specs.FormulaView.{FormulaView}
use Rattle.ltl_hoa.specs.Printed.{marked_of}
use Rattle.ltl_check.specs.declared.verdict.Outcome.{Outcome}
use Rattle.ltl_check.specs.declared.verdict.Outcome.TheVariants.{Contained, Violated}
use Rattle.ltl_check.specs.declared.fault.CheckFault.{CheckFault}
use Rattle.ltl_check.specs.declared.fault.CheckFault.TheVariants as fault
use Rattle.ltl_check.specs.VerdictView.{IsVerdictOn, level_pairs, verdict_of}
use Rattle.ltl_check.proofs.OperandLaws.{edge_sum}
use Rattle.ltl_check.proofs.WordLaws.{named_alike}
use Rattle.ltl_compare.specs.declared.fault.CompareFault.{CompareFault}
use Rattle.ltl_compare.specs.declared.fault.CompareFault.TheVariants.{OutOfMemory}
use Rattle.ltl_compare.specs.Faults.{of_check}
use Rattle.ltl_compare.specs.ComparisonView.{HasFewInBoth, HasFewSteps, edge_count, found_word, refusal_of}
use Rattle.ltl_compare.proofs.AutomatonLaws.{makes_models, makes_violations}

-- the word of an outcome is that of the verdict
word_same : {A : Type 0} (o : Outcome A) → entailment.word_in (verdict_of o) ≡ found_word o
word_same Contained = refl
word_same (Violated w) = refl

-- equal outcomes have one word
pub word_is : {A : Type 0} (o p : Outcome A) (w : Option Lasso) → w ≡ found_word o → o ≡ p → w ≡ found_word p
word_is o p w e q = e ∙ ap (λ x. found_word x) q

-- the automaton and the formula are those that were given
pub marked_same : (D B : Automaton) (g f : FormulaView) → D ≡ B → g ≡ f → marked_of D g.names ≡ marked_of B f.names
marked_same D B g f p q = ap (λ (X : Automaton). marked_of X g.names) p ∙ ap (λ (x : FormulaView). marked_of B x.names) q

-- ---- one direction

module _ (R S : Reading) where
  -- the first automaton isn't made
  pub models_refused : (e : CompareFault) → (e ≡ OutOfMemory) ⊎ MakesAutomaton stated_limits false R (Err (refusal_of e)) → (e ≡ OutOfMemory) ⊎ FindsEntailment stated_limits R S (Err (refusal_of e))
  models_refused e (inl m) = inl m
  models_refused e (inr h) = inr (inl (refusal_of e, h, refl))

  module _ (B : Automaton) (made : MakesAutomaton stated_limits false R (Ok B)) where
    -- the second one isn't
    pub violations_refused : (e : CompareFault) → (e ≡ OutOfMemory) ⊎ MakesAutomaton stated_limits true S (Err (refusal_of e)) → (e ≡ OutOfMemory) ⊎ FindsEntailment stated_limits R S (Err (refusal_of e))
    violations_refused e (inl m) = inl m
    violations_refused e (inr h) = inr (inr (B, made, inl (refusal_of e, h, refl)))

    module _ (C : Automaton) (denied : MakesAutomaton stated_limits true S (Ok C)) where
      separates : (r : Result (Option Lasso) refusal.Refusal) → Separates stated_limits R S B C r → FindsEntailment stated_limits R S r
      separates r h = inr (B, made, inr (C, denied, h))

      -- the automaton with the names of the first formula
      module _ (A : MarkedAutomaton) (named : A ≡ marked_of B R.names) where
        -- there is no verdict
        pub search_refused : {T : Type 0} (e : CheckFault)
            → (◌≡◌ {A = Result T CheckFault} (Err e) (Err fault.TooManyPropositions) → stated_limits.propositions < length (unified A.names S.names))
            → (◌≡◌ {A = Result T CheckFault} (Err e) (Err fault.ProductTooLarge) → (length (unified A.names S.names) ≤ stated_limits.propositions) × (stated_limits.product < product_size A S.names C))
            → (of_check e ≡ OutOfMemory) ⊎ FindsEntailment stated_limits R S (Err (refusal_of (of_check e)))
        search_refused fault.TooManyPropositions many large =
            inr (separates (Err refusal.TooManyPropositions) (subst (λ (M : MarkedAutomaton). stated_limits.propositions < length (unified M.names S.names)) named (many refl)))
        search_refused fault.ProductTooLarge many large =
            inr (separates (Err refusal.LargeProduct)
            (subst (λ (M : MarkedAutomaton). (length (unified M.names S.names) ≤ stated_limits.propositions) × (stated_limits.product < product_size M S.names C)) named (large refl)))
        search_refused fault.OutOfMemory many large = inl refl

        -- or one
        pub search_found : {X : Type 0} (o : Outcome X) → B.sets ≡ 0 → length (unified A.names S.names) ≤ stated_limits.propositions → product_size A S.names C ≤ stated_limits.product
            → IsVerdictOn A S.names C (verdict_of o) → FindsEntailment stated_limits R S (Ok (found_word o))
        search_found o none few fits verdict =
            separates (Ok (found_word o)) (
              subst (λ (M : MarkedAutomaton). length (unified M.names S.names) ≤ stated_limits.propositions) named few,
              subst (λ (M : MarkedAutomaton). product_size M S.names C ≤ stated_limits.product) named fits,
              subst (spec.IsEntailment R S) (word_same o)
                  (entailment.verdict_entails (marked_of B R.names) R S B C refl (named_alike B R.names none) (makes_models R B made) (makes_violations S C denied) (verdict_of o)
                  (subst (λ (M : MarkedAutomaton). IsVerdictOn M S.names C (verdict_of o)) named verdict)),
            )

        -- after few looks
        pub few_steps : (n : ℕ) → n ≤ 2 * level_pairs A C → HasFewSteps R S n
        few_steps n l =
            let e : 2 * level_pairs (marked_of B R.names) C ≡ 2 * (3 * (edge_count B * edge_count C)) = ap (λ m. 2 * (3 * (m * edge_count C))) (edge_sum B.states) in
            let k : n ≤ 2 * level_pairs (marked_of B R.names) C = subst (λ (M : MarkedAutomaton). n ≤ 2 * level_pairs M C) named l in
            (B, C, made, denied, omega (arith, e, k))

-- ---- both directions

module _ (R S : Reading) where
  module _ (first : Option Lasso) (forth : FindsEntailment stated_limits R S (Ok first)) where
    -- the second search is refused
    pub back_refused : (e : CompareFault) → (e ≡ OutOfMemory) ⊎ FindsEntailment stated_limits S R (Err (refusal_of e)) → (e ≡ OutOfMemory) ⊎ Compares stated_limits R S (Err (refusal_of e))
    back_refused e (inl m) = inl m
    back_refused e (inr h) = inr (inr (first, forth, inl (refusal_of e, h, refl)))

    -- or none is
    pub compared : (second : Option Lasso) → FindsEntailment stated_limits S R (Ok second) → (a b : Option Lasso) → a ≡ first → b ≡ second
        → Compares stated_limits R S (Ok (record { first_only = a; second_only = b }))
    compared second back a b p q = rw (p, q) (inr (first, forth, inr (second, back, refl)))

  pub few_in_both : (m n steps : ℕ) → HasFewSteps R S m → HasFewSteps S R n → steps ≤ m + n → HasFewInBoth R S steps
  few_in_both m n steps h k l = (m, n, h, k, l)
