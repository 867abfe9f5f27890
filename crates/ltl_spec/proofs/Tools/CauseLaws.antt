-- A status of 5 has a cause: an input, or a failed call on the output.
use Rattle.std.proofs.Common.{◌≡◌, ◌∙◌, ap, sym, subst, ℕ, ◌≤◌, ◌⊎◌, Bool, true, false, inl, inr, List, Option, Some, None, arith}
use Rattle.std.specs.Prelude.{Result, Ok, Err}
use Rattle.ltl_spec.specs.Formulas.Formula.{Reading}
use Rattle.ltl_spec.specs.NormalForms.Normal.{Normal}
use Rattle.ltl_spec.specs.NormalForms.NormalForm.{core}
use Rattle.ltl_spec.specs.Automata.Automaton.{Automaton}
use Rattle.ltl_spec.specs.Automata.ClaimText.{never_text}
use Rattle.ltl_spec.specs.Automata.HoaText.{hoa_text}
use Rattle.ltl_spec.specs.Automata.GeneralizedText.{generalized_text}
use Rattle.ltl_spec.specs.Checking.Check.{Verdict, Contained, Violated, IsViolation}
use Rattle.ltl_spec.specs.Construction.Translation.{Options}
use Rattle.ltl_spec.specs.Hoa.HoaReading.{AcceptanceForm, MarkedAutomaton}
use Rattle.ltl_spec.specs.Semantics.Word.{Name, Lasso}
use Rattle.ltl_spec.specs.Tools.Limits.{Limits}
use Rattle.ltl_spec.specs.Tools.Refusal.{Refusal, Tool, Translator, Checker, Evaluator, CannotOpen, CannotRead, CannotWrite, status_of}
use Rattle.ltl_spec.specs.Tools.Stage.{Broken}
use Rattle.ltl_spec.specs.Tools.Outcome.{Answer, Input, Text, NotOpened, Ended, Failed, IsAtFault, IsPromised, Seen, Then, answer_by, input_of, printed, taken}
use Rattle.ltl_spec.specs.Tools.Programs.{CheckerFinds, CheckerPlan, EvaluatorFinds, EvaluatorPlan, Evaluates, InputReads, Judges, KeepsRows, Layout, Claim, Hoa, Generalized, Prints, ReadsFormula, ReadsHoa, ReadsWord, Translates, TranslatesGeneralized, TranslatorPlan, TranslatorPrints, plain_options, truth_answer, verdict_answer}
use Rattle.ltl_spec.specs.Tools.Run.{HasInputAtFault, PlanOf, ToolAnswers}
use Rattle.ltl_spec.proofs.Tools.StepLaws.{never}

-- the refusals with a status of 5
data OfStreams : Refusal → Type 0 where
  opening : OfStreams CannotOpen
  reading : OfStreams CannotRead
  writing : OfStreams CannotWrite

of_status : (e : Refusal) → status_of e ≡ 5 → OfStreams e
of_status CannotOpen h = opening
of_status CannotRead h = reading
of_status CannotWrite h = writing
of_status _ h = absurd (omega (arith, h))

same_err : {A : Type 0} (x y : Refusal) → ◌≡◌ {A = Result A Refusal} (Err x) (Err y) → y ≡ x
same_err x y p = cc

-- of two steps one refuses
then_cause : {A B P : Type 0} (First : Result A Refusal → Type 0) (Second : A → Result B Refusal → Type 0) (e : Refusal) → (First (Err e) → P) → ((a : A) → Second a (Err e) → P) → Then First Second (Err e) → P
then_cause First Second e f g (inl (x, h, q)) = f (subst (λ (y : Refusal). First (Err y)) (same_err e x q) h)
then_cause First Second e f g (inr (a, h, k)) = g a k

module _ (l : Limits) where
  -- ---- the steps that look at no input
  formula_never : {e : Refusal} → OfStreams e → (text : List ℕ) → ReadsFormula l text (Err e) → ⊥
  formula_never opening text h = h
  formula_never reading text h = h
  formula_never writing text h = h

  rows_never : {e : Refusal} → OfStreams e → (N : Normal) → KeepsRows l N (Err e) → ⊥
  rows_never opening N h = h
  rows_never reading N h = h
  rows_never writing N h = h

  automaton_never : {e : Refusal} → OfStreams e → (N : Normal) (o : Options) → Translates l N o (Err e) → ⊥
  automaton_never opening N o h = h
  automaton_never reading N o h = h
  automaton_never writing N o h = h

  generalized_never : {e : Refusal} → OfStreams e → (N : Normal) (o : Options) → TranslatesGeneralized l N o (Err e) → ⊥
  generalized_never opening N o h = h
  generalized_never reading N o h = h
  generalized_never writing N o h = h

  word_never : {e : Refusal} → OfStreams e → (names : List Name) (text : List ℕ) → ReadsWord l names text (Err e) → ⊥
  word_never opening names text h = h
  word_never reading names text h = h
  word_never writing names text h = h

  hoa_never : {e : Refusal} → OfStreams e → (form : AcceptanceForm) (text : List ℕ) → ReadsHoa l form text (Err e) → ⊥
  hoa_never opening form text h = h
  hoa_never reading form text h = h
  hoa_never writing form text h = h

  judge_never : {e : Refusal} → OfStreams e → (A : MarkedAutomaton) (names : List Name) (B : Automaton) (Found : Lasso → Type 0) → Judges l A names B Found (Err e) → ⊥
  judge_never opening A names B Found h = h
  judge_never reading A names B Found h = h
  judge_never writing A names B Found h = h

  prints_never : (e : Refusal) → OfStreams e → (layout : Layout) (N : Normal) (o : Options) (R : Reading) → Prints l layout N o R (Err e) → ⊥
  prints_never e s Claim N o R = then_cause (Translates l N o) (λ B r. r ≡ Ok (never_text B R)) e (automaton_never s N o) (λ B h. never (never_text B R) e h)
  prints_never e s Hoa N o R = then_cause (Translates l N o) (λ B r. r ≡ Ok (hoa_text B R)) e (automaton_never s N o) (λ B h. never (hoa_text B R) e h)
  prints_never e s Generalized N o R = then_cause (TranslatesGeneralized l N o) (λ A r. r ≡ Ok (generalized_text A R)) e (generalized_never s N o) (λ A h. never (generalized_text A R) e h)

  evaluates_never : (e : Refusal) (R : Reading) (w : Lasso) → Evaluates l R w (Err e) → ⊥
  evaluates_never e R w (inl h) = never true e h.0
  evaluates_never e R w (inr h) = never false e h.0

  -- ---- the taking of an input
  taken_cause : (most : ℕ) (input : Input) (e : Refusal) → Err e ≡ taken most input → IsAtFault input
  taken_cause most (Text bs) e p = absurd (never bs e p)
  taken_cause most NotOpened e p = tt
  taken_cause most (Ended bs) e p = absurd (never bs e p)
  taken_cause most (Failed bs) e p = tt

  input_cause : (e : Refusal) → OfStreams e → (input : Input) → InputReads l input (Err e) → IsAtFault input
  input_cause e s input = then_cause (λ r. r ≡ taken l.formula_bytes input) (ReadsFormula l) e (taken_cause l.formula_bytes input e) (λ text h. absurd (formula_never s text h))

  -- ---- the programs
  translator_cause : (e : Refusal) → OfStreams e → (p : TranslatorPlan) (input : Input) → TranslatorPrints l p input (Err e) → IsAtFault (input_of p.formula input)
  translator_cause e s p input = then_cause (InputReads l (input_of p.formula input)) (λ R. Then (KeepsRows l (core R.formula false p.rewrite)) (λ N. Prints l p.layout N p.options R)) e
      (input_cause e s (input_of p.formula input))
      (λ R h. absurd (then_cause (KeepsRows l (core R.formula false p.rewrite)) (λ N. Prints l p.layout N p.options R) e (rows_never s (core R.formula false p.rewrite)) (λ N. prints_never e s p.layout N p.options R) h))

  evaluator_cause : (e : Refusal) → OfStreams e → (p : EvaluatorPlan) (input : Input) → EvaluatorFinds l p input (Err e) → IsAtFault (input_of p.formula input)
  evaluator_cause e s p input = then_cause (InputReads l (input_of p.formula input)) (λ R. Then (ReadsWord l R.names p.word) (λ w. Evaluates l R w)) e
      (input_cause e s (input_of p.formula input))
      (λ R h. absurd (then_cause (ReadsWord l R.names p.word) (λ w. Evaluates l R w) e (word_never s R.names p.word) (λ w. evaluates_never e R w) h))

  module _ (form : AcceptanceForm) (p : CheckerPlan) (input file : Input) (e : Refusal) (s : OfStreams e) where
    abbrev Checked : Reading → Automaton → MarkedAutomaton → Result Verdict Refusal → Type 0
    Checked R B A = Judges l A R.names B (IsViolation A R)

    abbrev Looked : Reading → Automaton → Result Verdict Refusal → Type 0
    Looked R B = Then (λ r. r ≡ taken l.hoa_bytes file) (λ text. Then (ReadsHoa l form text) (Checked R B))

    looked_cause : (R : Reading) (B : Automaton) → Looked R B (Err e) → IsAtFault file
    looked_cause R B = then_cause (λ r. r ≡ taken l.hoa_bytes file) (λ text. Then (ReadsHoa l form text) (Checked R B)) e (taken_cause l.hoa_bytes file e)
        (λ text h. absurd (then_cause (ReadsHoa l form text) (Checked R B) e (hoa_never s form text) (λ A. judge_never s A R.names B (IsViolation A R)) h))

    negated_cause : (R : Reading) → Then (KeepsRows l (core R.formula true true)) (λ N. Then (Translates l N plain_options) (Looked R)) (Err e) → IsAtFault file
    negated_cause R = then_cause (KeepsRows l (core R.formula true true)) (λ N. Then (Translates l N plain_options) (Looked R)) e (λ h. absurd (rows_never s (core R.formula true true) h))
        (λ N. then_cause (Translates l N plain_options) (Looked R) e (λ h. absurd (automaton_never s N plain_options h)) (λ B. looked_cause R B))

    checker_cause : CheckerFinds l form p input file (Err e) → IsAtFault (input_of p.formula input) ⊎ IsAtFault file
    checker_cause = then_cause (InputReads l (input_of p.formula input)) (λ R. Then (KeepsRows l (core R.formula true true)) (λ N. Then (Translates l N plain_options) (Looked R))) e
        (λ h. inl (input_cause e s (input_of p.formula input) h)) (λ R h. inr (negated_cause R h))

module _ (l : Limits) (form : AcceptanceForm) (input file : Input) where
  -- an answer with that status is a refusal of the program
  refusal_cause : {A P : Type 0} (tool : Tool) (f : A → Answer) → ((a : A) → (f a).status ≤ 1) → (Finds : Result A Refusal → Type 0) → ((e : Refusal) → OfStreams e → Finds (Err e) → P)
      → (r : Result A Refusal) → Finds r → (answer_by l tool f r).status ≡ 5 → P
  refusal_cause tool f low Finds cause (Ok a) h st = let small = low a in absurd (omega (arith, small, st))
  refusal_cause tool f low Finds cause (Err e) h st = cause e (of_status e st) h

  truth_low : (b : Bool) → (truth_answer l b).status ≤ 1
  truth_low true = omega arith
  truth_low false = omega arith

  verdict_low : (v : Verdict) → (verdict_answer l v).status ≤ 1
  verdict_low Contained = omega arith
  verdict_low (Violated w) = omega arith

  answer_cause : (tool : Tool) (plan : Option (PlanOf tool)) (a : Answer) → ToolAnswers l form tool plan input file a → a.status ≡ 5 → HasInputAtFault tool plan input file
  answer_cause Translator None a e st = let s = sym (ap (λ (x : Answer). x.status) e) ∙ st in absurd (omega (arith, s))
  answer_cause Checker None a e st = let s = sym (ap (λ (x : Answer). x.status) e) ∙ st in absurd (omega (arith, s))
  answer_cause Evaluator None a e st = let s = sym (ap (λ (x : Answer). x.status) e) ∙ st in absurd (omega (arith, s))
  answer_cause Translator (Some p) a (r, h, e) st =
      refusal_cause Translator (λ text. printed text 0) (λ text. omega arith) (TranslatorPrints l p input) (λ x s. translator_cause l x s p input) r h (sym (ap (λ (x : Answer). x.status) e) ∙ st)
  answer_cause Checker (Some p) a (r, h, e) st =
      refusal_cause Checker (verdict_answer l) verdict_low (CheckerFinds l form p input file) (λ x s. checker_cause l form p input file x s) r h (sym (ap (λ (x : Answer). x.status) e) ∙ st)
  answer_cause Evaluator (Some p) a (r, h, e) st =
      refusal_cause Evaluator (truth_answer l) truth_low (EvaluatorFinds l p input) (λ x s. evaluator_cause l x s p input) r h (sym (ap (λ (x : Answer). x.status) e) ∙ st)

  -- of a run that keeps the promise
  pub promised_cause : (tool : Tool) (plan : Option (PlanOf tool)) (seen : Seen) → IsPromised l tool (ToolAnswers l form tool plan input file) seen
      → seen.status ≡ 5 → (seen.output_stage ≡ Broken) ⊎ HasInputAtFault tool plan input file
  promised_cause tool plan seen (inl (a, h, g)) st = inr (answer_cause tool plan a h (sym g.0 ∙ st))
  promised_cause tool plan seen (inr (inl g)) st = let s = g.0 in absurd (omega (arith, s, st))
  promised_cause tool plan seen (inr (inr (a, h, m, s, w, b, t))) st = inl b
