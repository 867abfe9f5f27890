-- From what was read and compared to what a call returns.
use Rattle.std.proofs.Common.{◌≡◌, ◌∙◌, ap, ap₂, sym, subst, refl, ◌⊎◌, inl, inr, ℕ, List, []}
use Rattle.std.specs.Prelude.{Result, Ok, Err}
use Rattle.ltl_spec.specs.Checking.Comparison.{Comparison}
use Rattle.ltl_spec.specs.Formulas.Formula.{Reading}
use Rattle.ltl_spec.specs.Tools.Comparer.{ComparerAnswers, ComparerNeverShort, Subject, First, Second, Other, comparer_message, comparer_refused, comparison_answer, comparison_text, relation_status}
use Rattle.ltl_spec.specs.Tools.Comparison.{Compares}
use Rattle.ltl_spec.specs.Tools.Limits.{stated_limits}
use Rattle.ltl_spec.specs.Tools.Outcome.{Given, NotOpened}
use Rattle.ltl_spec.specs.Tools.Refusal as spec
use Rattle.ltl_spec.specs.Tools.Refusal.{status_of}
use Rattle.ltl_compare.specs.ComparisonView as compare
use Rattle.ltl_compare.specs.declared.fault.CompareFault.{CompareFault}
use Rattle.ltl_compare.specs.declared.fault.CompareFault.TheVariants as fault
use Rattle.ltl_cli.specs.Inputs.{RefusesInput}
use Rattle.ltl_cli.specs.Refusals.{refusal_of}
use Rattle.ltl_cli.specs.declared.refusal.Refusal.{Refusal}
use Rattle.ltl_cli.proofs.InputLaws.{reads_takes}
use Rattle.ltl_c.specs.Codes.{subject_in}
use Rattle.ltl_c.specs.Comparisons.{AreCompared, ComparesTexts, DeliversBoth, HandsComparison, IsNotCompared, IsRefusedIn, IsRelated, IsToldOf, MayEndComparing, ReadsText, Texts, compared, comparer_asked, not_compared, text_of, texts, texts_of}
use Rattle.ltl_c.specs.declared.comparison.Compared.{Compared}
use Rattle.ltl_c.specs.declared.subject.Refused.{Refused}
use Rattle.ltl_c.specs.declared.subject.Subject as code
use Rattle.ltl_c.specs.declared.subject.Subject.TheVariants as subject

neither : {A B : Type 0} → ¬ A → ¬ B → ¬ (A ⊎ B)
neither a b (inl h) = a h
neither a b (inr h) = b h

-- a fault of a comparison as a refusal of it
pub fault_refused : (R S : Reading) (e : CompareFault) (r : spec.Refusal) → r ≡ compare.refusal_of e → (e ≡ fault.OutOfMemory) ⊎ Compares stated_limits R S (Err (compare.refusal_of e)) → IsRefusedIn (Compares stated_limits R S) r
fault_refused R S e r q (inl m) = inl (q ∙ ap compare.refusal_of m)
fault_refused R S e r q (inr h) = inr (subst (λ (x : spec.Refusal). Compares stated_limits R S (Err x)) (sym q) h)

-- ---- from the texts to the comparison

module _ (first second : List ℕ) where
  -- memory may run out behind the first text, if that isn't too long
  short_of_memory : {R : Reading} → ReadsText first (Ok R) → ¬ (ComparerNeverShort stated_limits (comparer_asked first second) NotOpened NotOpened)
  short_of_memory {R} reads = neither (reads_takes (Given first) NotOpened R reads) (λ f. f)

  first_refused : (e : Refusal) → RefusesInput (Given first) NotOpened e → IsNotCompared first second First (refusal_of e)
  first_refused e (inl (m, n)) = record { cause = inl (ap refusal_of m); answers = inl (ap refusal_of m, neither n (λ f. f)) }
  first_refused e (inr h) = record { cause = inr h; answers = inr (inl (refusal_of e, h, refl)) }

  pub first_stopped : (e : Refused) → (e.subject ≡ subject.First) × RefusesInput (Given first) NotOpened e.refusal → IsNotCompared first second (subject_in e.subject) (refusal_of e.refusal)
  first_stopped e (q, h) = subst (λ (s : code.Subject). IsNotCompared first second (subject_in s) (refusal_of e.refusal)) (sym q) (first_refused e.refusal h)

  module _ (R : Reading) (reads : ReadsText first (Ok R)) where
    second_refused : (e : Refusal) → RefusesInput (Given second) NotOpened e → IsNotCompared first second Second (refusal_of e)
    second_refused e (inl (m, n)) = record { cause = (R, reads, inl (ap refusal_of m)); answers = inl (ap refusal_of m, short_of_memory reads) }
    second_refused e (inr h) = record { cause = (R, reads, inr h); answers = inr (inr (R, reads, inl (refusal_of e, h, refl))) }

    pub second_stopped : (e : Refused) → (e.subject ≡ subject.Second) × RefusesInput (Given second) NotOpened e.refusal → IsNotCompared first second (subject_in e.subject) (refusal_of e.refusal)
    second_stopped e (q, h) = subst (λ (s : code.Subject). IsNotCompared first second (subject_in s) (refusal_of e.refusal)) (sym q) (second_refused e.refusal h)

    module _ (S : Reading) (others : ReadsText second (Ok S)) where
      relation_refused : (r : spec.Refusal) → IsRefusedIn (Compares stated_limits R S) r → IsNotCompared first second Other r
      relation_refused r (inl m) = record { cause = (R, S, (reads, others), inl m); answers = inl (m, short_of_memory reads) }
      relation_refused r (inr h) = record { cause = (R, S, (reads, others), inr h); answers = inr (inr (R, reads, inr (S, others, inl (r, h, refl)))) }

      pub both_compared : {T : Type 0} (view : T → Comparison) (r : Result T Refused) → IsRelated R S view r → ComparesTexts first second (λ c d. view d ≡ c) r
      both_compared view (Ok d) (i, h) = (view d, record { left = R; right = S; reads = (reads, others); compares = i; made = h }, refl)
      both_compared view (Err e) (q, h) = subst (λ (s : code.Subject). IsNotCompared first second (subject_in s) (refusal_of e.refusal)) (sym q) (relation_refused (refusal_of e.refusal) h)

  -- memory ran out for the text of a word
  pub memory_refused : (c : Comparison) → AreCompared first second c → IsNotCompared first second Other spec.OutOfMemory
  memory_refused c h = relation_refused h.left h.reads.0 h.right h.reads.1 spec.OutOfMemory (inl refl)

  -- a result that is a refusal
  pub refused_texts : {T : Type 0} (Is : Comparison → T → Type 0) (r : Result T Refused) (x e : Refused) → r ≡ Err x → x ≡ e → IsNotCompared first second (subject_in e.subject) (refusal_of e.refusal) → ComparesTexts first second Is r
  refused_texts {T} Is r x e q k h =
      subst (λ (s : Result T Refused). ComparesTexts first second Is s) (sym q) (subst (λ (y : Refused). IsNotCompared first second (subject_in y.subject) (refusal_of y.refusal)) (sym k) h)

  -- the texts of both words, and what is told of them
  pub told_of : (c d : Comparison) → AreCompared first second d → c ≡ d → (t : Texts) → t.first_only ≡ text_of c.first_only → t.second_only ≡ text_of c.second_only → (found : Compared) → found ≡ compared c
      → (status : ℕ) → status ≡ relation_status c.first_only c.second_only → (e : Comparison) × AreCompared first second e × IsToldOf e t found status
  told_of c d h q t ef es found ec status er = (c, subst (AreCompared first second) (sym q) h, record { both = ap₂ texts ef es; answer = ec; ended = er })

  -- ---- what the program shows

  answered : (c : Comparison) → AreCompared first second c → MayEndComparing first second (relation_status c.first_only c.second_only) (comparison_text c) []
  answered c h = inl (comparison_answer c, inr (h.left, h.reads.0, inr (h.right, h.reads.1, inr (c, h.made, refl))), (refl, refl, refl, inl (refl, refl)))

  refusal_shown : (s : Subject) (r : spec.Refusal)
      → (r ≡ spec.OutOfMemory) × ¬ (ComparerNeverShort stated_limits (comparer_asked first second) NotOpened NotOpened)
      ⊎ ComparerAnswers stated_limits (comparer_asked first second) NotOpened NotOpened (comparer_refused stated_limits s r)
      → MayEndComparing first second (status_of r) [] (comparer_message stated_limits s r)
  refusal_shown s r (inl (m, n)) =
      subst (λ (x : spec.Refusal). MayEndComparing first second (status_of x) [] (comparer_message stated_limits s x)) (sym m) (inr (inl (n, (refl, refl, refl, inl (refl, refl)))))
  refusal_shown s r (inr h) = inl (comparer_refused stated_limits s r, h, (refl, refl, refl, inl (refl, refl)))

  -- ---- what the call hands over

  module _ (found : Compared) (old new : Texts) where
    pub comparison_handed : (c : Comparison) → AreCompared first second c → found ≡ compared c → (n : ℕ) → n ≡ relation_status c.first_only c.second_only → (t : Texts) → t ≡ texts_of c → (status : ℕ) → DeliversBoth n t old new status
        → HandsComparison first second found old new status
    comparison_handed c h e n q t k status d = inl (record {
      left = h.left;
      right = h.right;
      comparison = c;
      reads = h.reads;
      compares = h.compares;
      made = h.made;
      shown = answered c h;
      told = e;
      delivered = subst (λ (m : ℕ). DeliversBoth m (texts_of c) old new status) q (subst (λ (x : Texts). DeliversBoth n x old new status) k d);
    })

    pub refusal_handed : (s : Subject) (r : spec.Refusal) → IsNotCompared first second s r → found ≡ not_compared s r → (n : ℕ) → n ≡ status_of r → new ≡ old → HandsComparison first second found old new n
    refusal_handed s r h e n q k = inr (record {
      subject = s;
      reason = r;
      cause = h.cause;
      shown = subst (λ (m : ℕ). MayEndComparing first second m [] (comparer_message stated_limits s r)) (sym q) (refusal_shown s r h.answers);
      ended = q;
      told = e;
      kept = k;
    })
