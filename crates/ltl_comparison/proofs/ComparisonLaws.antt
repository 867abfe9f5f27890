-- From what was read and compared to the answers.
use Rattle.std.proofs.Common.{◌≡◌, ap, sym, subst, refl, ◌⊎◌, inl, inr, Some}
use Rattle.std.specs.Prelude.{Result, Ok, Err}
use Rattle.ltl_spec.specs.Checking.Comparison.{Comparison}
use Rattle.ltl_spec.specs.Formulas.Formula.{Reading}
use Rattle.ltl_spec.specs.Tools.Comparer.{ComparerNeverShort, ComparerPlan, HasFailed, comparer_refused}
use Rattle.ltl_spec.specs.Tools.Comparison.{Compares}
use Rattle.ltl_spec.specs.Tools.Limits.{stated_limits}
use Rattle.ltl_spec.specs.Tools.Outcome as outcome
use Rattle.ltl_spec.specs.Tools.Outcome.{FormulaWord, Input, IsNeverShort, input_of}
use Rattle.ltl_spec.specs.Tools.Programs.{InputReads}
use Rattle.ltl_compare.specs.ComparisonView as compare
use Rattle.ltl_compare.specs.declared.fault.CompareFault.{CompareFault}
use Rattle.ltl_compare.specs.declared.fault.CompareFault.TheVariants as fault
use Rattle.ltl_cli.specs.Inputs.{IsFailed, RefusesInput}
use Rattle.ltl_cli.specs.Refusals.{refusal_of}
use Rattle.ltl_cli.specs.declared.refusal.Refusal.TheVariants.{OutOfMemory}
use Rattle.ltl_cli.proofs.InputLaws.{reads_takes}
use Rattle.ltl_comparison.specs.Comparisons.{IsCompared, IsRelated, RefusesPlan}
use Rattle.ltl_comparison.specs.Refusals.{comparison_refusal, subject_in}
use Rattle.ltl_comparison.specs.declared.refusal.Refused.{Refused}
use Rattle.ltl_comparison.specs.declared.refusal.Subject.{Subject}
use Rattle.ltl_comparison.specs.declared.refusal.Subject.TheVariants.{First, Second, Other}

-- ---- inputs of which a read failed

failed_never : (word : FormulaWord) (input : Input) → HasFailed (input_of word input) → IsNeverShort stated_limits.formula_bytes (Some word) input
failed_never (outcome.Given text) input h = absurd h
failed_never (outcome.File name) (outcome.Text bytes) h = absurd h
failed_never (outcome.File name) outcome.NotOpened h = absurd h
failed_never (outcome.File name) (outcome.Ended bytes) h = absurd h
failed_never (outcome.File name) (outcome.Failed bytes) h = tt

whole_input : (word : FormulaWord) (input : Input) → ¬ (IsFailed input) → ¬ (HasFailed (input_of word input))
whole_input (outcome.Given text) input n h = h
whole_input (outcome.File name) (outcome.Text bytes) n h = h
whole_input (outcome.File name) outcome.NotOpened n h = h
whole_input (outcome.File name) (outcome.Ended bytes) n h = h
whole_input (outcome.File name) (outcome.Failed bytes) n h = n h

neither : {A B : Type 0} → ¬ A → ¬ B → ¬ (A ⊎ B)
neither a b (inl h) = a h
neither a b (inr h) = b h

-- ---- faults of a comparison

pub fault_refused : (R S : Reading) (e : CompareFault) → (e ≡ fault.OutOfMemory) ⊎ Compares stated_limits R S (Err (compare.refusal_of e))
    → (comparison_refusal e ≡ OutOfMemory) ⊎ Compares stated_limits R S (Err (refusal_of (comparison_refusal e)))
fault_refused R S e (inl h) = inl (ap comparison_refusal h)
fault_refused R S fault.TooManyRows (inr h) = inr h
fault_refused R S fault.TooManyElementaryRows (inr h) = inr h
fault_refused R S fault.TooLarge (inr h) = inr h
fault_refused R S fault.TooManyPropositions (inr h) = inr h
fault_refused R S fault.ProductTooLarge (inr h) = inr h
fault_refused R S fault.OutOfMemory (inr h) = inr h

-- ---- a plan

module _ (p : ComparerPlan) (first second : Input) where
  answer_same : (e : Refused) (s : Subject) → e.subject ≡ s → comparer_refused stated_limits (subject_in e.subject) (refusal_of e.refusal) ≡ comparer_refused stated_limits (subject_in s) (refusal_of e.refusal)
  answer_same e s q = ap (λ x. comparer_refused stated_limits (subject_in x) (refusal_of e.refusal)) q

  -- a result that is a refusal
  pub refused_compared : {T : Type 0} (view : T → Comparison) (r : Result T Refused) (x e : Refused) → r ≡ Err x → x ≡ e → RefusesPlan p first second e → IsCompared p first second view r
  refused_compared {T} view r x e q k h = subst (λ (s : Result T Refused). IsCompared p first second view s) (sym q) (subst (RefusesPlan p first second) (sym k) h)

  -- the first formula was refused, and the second one wasn't read
  pub first_refused : ¬ (IsFailed second) → (e : Refused) → e.subject ≡ First → RefusesInput p.first first e.refusal → RefusesPlan p first second e
  first_refused whole e q (inl (m, n)) = inl (m, neither n (whole_input p.second second whole))
  first_refused whole e q (inr h) = inr (inl (refusal_of e.refusal, h, answer_same e First q))

  module _ (R : Reading) (reads : InputReads stated_limits (input_of p.first first) (Ok R)) where
    -- the second formula was refused
    pub second_refused : (e : Refused) → e.subject ≡ Second → RefusesInput p.second second e.refusal → RefusesPlan p first second e
    second_refused e q (inl (m, n)) = inl (m, neither (reads_takes p.first first R reads) (λ f. n (failed_never p.second second f)))
    second_refused e q (inr h) = inr (inr (R, reads, inl (refusal_of e.refusal, h, answer_same e Second q)))

    module _ (S : Reading) (others : InputReads stated_limits (input_of p.second second) (Ok S)) where
      takes : ¬ (ComparerNeverShort stated_limits p first second)
      takes = neither (reads_takes p.first first R reads) (λ f. reads_takes p.second second S others (failed_never p.second second f))

      -- both were read
      pub both_compared : {T : Type 0} (view : T → Comparison) (r : Result T Refused) → IsRelated R S view r → IsCompared p first second view r
      both_compared view (Ok c) h = inr (R, reads, inr (S, others, inr (view c, h, refl)))
      both_compared view (Err e) (q, inl m) = inl (m, takes)
      both_compared view (Err e) (q, inr h) = inr (inr (R, reads, inr (S, others, inl (refusal_of e.refusal, h, answer_same e Other q))))
