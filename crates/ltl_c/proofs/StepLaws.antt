-- Steps taken by code, one after the other.
use Rattle.std.proofs.Common.{◌≡◌, ◌∙◌, ◌⊎◌, ◌+◌, ◌<◌, ap, ap₂, sym, refl, inl, inr, Bool, true, false, ℕ, suc, arith, List, [], ◌∷◌, ◌++◌, length, take, append_assoc, append-nil}
use Rattle.std.proofs.lemmas.Grind.{flat_map-append}
use Rattle.std.specs.Prelude.{Result, Ok, Err, slice_index_or}
use Rattle.std.specs.Bool.{Decides}
use Rattle.ltl_spec.specs.Automata.Automaton.{Automaton}
use Rattle.ltl_spec.specs.Checking.Check.{Verdict, IsViolation}
use Rattle.ltl_spec.specs.Formulas.Formula.{Reading}
use Rattle.ltl_spec.specs.Hoa.HoaReading.{MarkedAutomaton, stated_form}
use Rattle.ltl_spec.specs.NormalForms.Normal.{Normal}
use Rattle.ltl_spec.specs.NormalForms.NormalForm.{core}
use Rattle.ltl_spec.specs.Semantics.Satisfaction.{Satisfies}
use Rattle.ltl_spec.specs.Semantics.Word.{Lasso}
use Rattle.ltl_spec.specs.Tools.Limits.{stated_limits}
use Rattle.ltl_spec.specs.Tools.Refusal as spec
use Rattle.ltl_spec.specs.Tools.Outcome.{Text, Ended, NotOpened, Then, taken}
use Rattle.ltl_spec.specs.Tools.Programs.{EvaluatorFinds, Evaluates, InputReads, Judges, KeepsRows, ReadsHoa, ReadsWord, Translates, plain_options}
use Rattle.ltl_spec.proofs.Tools.StepLaws.{never}
use Rattle.ltl_syntax.specs.FormulaView.{FormulaView, reading_of}
use Rattle.ltl_word.specs.ReadText as word_text
use Rattle.std.proofs.Math.Seq.{take-suc}
use Rattle.ltl_word.specs.declared.fault.WordFault.{WordFault}
use Rattle.ltl_word.specs.declared.fault.WordFault.TheVariants as word
use Rattle.ltl_cli.specs.declared.refusal.Refusal.{Refusal}
use Rattle.ltl_cli.specs.declared.refusal.Refusal.TheVariants.{OutOfMemory}
use Rattle.ltl_cli.specs.Checks.{Negates, ReadsAutomaton}
use Rattle.ltl_cli.specs.Refusals.{TakesStep, of_word, refusal_of}
use Rattle.ltl_c.specs.Calls.{evaluator_asked}
use Rattle.ltl_c.specs.Names.{names_text}
use Rattle.ltl_c.specs.Verdicts.{FindsAsked}

-- a refusal of memory, or of the definitions
abbrev pub Refuses : {A : Type 0} → (Result A spec.Refusal → Type 0) → Refusal → Type 0
Refuses Step e = (e ≡ OutOfMemory) ⊎ Step (Err (refusal_of e))

-- ---- two steps

module _ {A B : Type 0} (First : Result A spec.Refusal → Type 0) (Second : A → Result B spec.Refusal → Type 0) where
  pub first_refused : (e : Refusal) → Refuses First e → Refuses (Then First Second) e
  first_refused e (inl h) = inl h
  first_refused e (inr h) = inr (inl (refusal_of e, h, refl))

  pub second_refused : (a : A) → First (Ok a) → (e : Refusal) → Refuses (Second a) e → Refuses (Then First Second) e
  second_refused a h e (inl k) = inl k
  second_refused a h e (inr k) = inr (inr (a, h, k))

  -- the second step, as it went
  pub second_step : {F : Type 0} (view : F → B) (a : A) → First (Ok a) → (r : Result F Refusal) → TakesStep (Second a) view r → TakesStep (Then First Second) view r
  second_step view a h (Ok f) k = inr (a, h, k)
  second_step view a h (Err e) k = second_refused a h e k

-- ---- three steps, of which the first two are one

module _ {A B C : Type 0} (First : Result A spec.Refusal → Type 0) (Second : A → Result B spec.Refusal → Type 0) (Third : B → Result C spec.Refusal → Type 0) where
  moved : (x y : spec.Refusal) → ◌≡◌ {A = Result B spec.Refusal} (Err x) (Err y) → ◌≡◌ {A = Result C spec.Refusal} (Err x) (Err y)
  moved x y p = cc

  pub then_refused : (e : spec.Refusal) → Then First Second (Err e) → Then First (λ a. Then (Second a) Third) (Err e)
  then_refused e (inl (x, h, q)) = inl (x, h, moved e x q)
  then_refused e (inr (a, h, k)) = inr (a, h, inl (e, k, refl))

  pub both_refused : (e : Refusal) → Refuses (Then First Second) e → Refuses (Then First (λ a. Then (Second a) Third)) e
  both_refused e (inl h) = inl h
  both_refused e (inr h) = inr (then_refused (refusal_of e) h)

  then_goes : (b : B) (r : Result C spec.Refusal) → Then First Second (Ok b) → Third b r → Then First (λ a. Then (Second a) Third) r
  then_goes b r (inl (x, h, q)) t = absurd (never b x (sym q))
  then_goes b r (inr (a, h, k)) t = inr (a, h, inr (b, k, t))

  pub third_refused : (b : B) → Then First Second (Ok b) → (e : Refusal) → Refuses (Third b) e → Refuses (Then First (λ a. Then (Second a) Third)) e
  third_refused b h e (inl k) = inl k
  third_refused b h e (inr k) = inr (then_goes b (Err (refusal_of e)) h k)

  pub third_step : {F : Type 0} (view : F → C) (b : B) → Then First Second (Ok b) → (r : Result F Refusal) → TakesStep (Third b) view r → TakesStep (Then First (λ a. Then (Second a) Third)) view r
  third_step view b h (Ok f) k = then_goes b (Ok (view f)) h k
  third_step view b h (Err e) k = third_refused b h e k

-- ---- words

pub word_refused : (names : List (List ℕ)) (text : List ℕ) (e : WordFault) → word_text.IsRefusedFor names text e → Refuses (ReadsWord stated_limits names text) (of_word e)
word_refused names text word.TooLong h = inr h
word_refused names text (word.BadWord place) h = inr h
word_refused names text word.TooManyPropositions h = inr h
word_refused names text word.OutOfMemory h = inl refl

pub decided : (R : Reading) (w : Lasso) (b : Bool) → Decides b (Satisfies R.names w 0 R.formula) → Evaluates stated_limits R w (Ok b)
decided R w true d = inl (refl, d.0 refl)
decided R w false d = inr (refl, λ s. absurd (false_true (d.1 s)))
  where
    false_true : false ≡ true → ⊥
    false_true q = cc

module _ (text word : List ℕ) (f : FormulaView) (reads : InputReads stated_limits (Text text) (Ok (reading_of f))) where
  pub evaluation_refused : (e : WordFault) → word_text.IsRefusedFor f.names word e → Refuses (EvaluatorFinds stated_limits (evaluator_asked text word) NotOpened) (of_word e)
  evaluation_refused e h =
      second_refused (InputReads stated_limits (Text text)) (λ R. Then (ReadsWord stated_limits R.names word) (λ w. Evaluates stated_limits R w)) (reading_of f) reads (of_word e)
      (first_refused (ReadsWord stated_limits f.names word) (λ w. Evaluates stated_limits (reading_of f) w) (of_word e) (word_refused f.names word e h))

  pub evaluation_found : (w : Lasso) (b : Bool) → word_text.IsReadAs f.names word w → Decides b (Satisfies f.names w 0 (reading_of f).formula) → EvaluatorFinds stated_limits (evaluator_asked text word) NotOpened (Ok b)
  evaluation_found w b h d = inr (reading_of f, reads, inr (w, h, decided (reading_of f) w b d))

-- ---- automata in memory

-- a text reads as an automaton, and so does an input that is this text
pub automaton_step : (text : List ℕ) (r : Result MarkedAutomaton Refusal) → TakesStep (ReadsHoa stated_limits stated_form text) (λ A. A) r → TakesStep (ReadsAutomaton (Ended text)) (λ A. A) r
automaton_step text (Ok A) h = inr (text, refl, h)
automaton_step text (Err e) (inl m) = inl m
automaton_step text (Err e) (inr h) = inr (inr (text, refl, h))

-- ---- verdicts

module _ (text automaton : List ℕ) (f : FormulaView) (reads : InputReads stated_limits (Text text) (Ok (reading_of f))) where
  abbrev takes : Result (List ℕ) spec.Refusal → Type 0
  takes r = r ≡ taken stated_limits.hoa_bytes (Ended automaton)

  abbrev judges : Reading → Automaton → MarkedAutomaton → Result Verdict spec.Refusal → Type 0
  judges R B A = Judges stated_limits A R.names B (IsViolation A R)

  abbrev rest : Reading → Automaton → Result Verdict spec.Refusal → Type 0
  rest R B = Then (λ r. r ≡ taken stated_limits.hoa_bytes (Ended automaton)) (λ t. Then (ReadsHoa stated_limits stated_form t) (λ A. Judges stated_limits A R.names B (IsViolation A R)))

  abbrev rows : Reading → Result Normal spec.Refusal → Type 0
  rows R = KeepsRows stated_limits (core R.formula true true)

  abbrev translates : Normal → Result Automaton spec.Refusal → Type 0
  translates N = Translates stated_limits N plain_options

  abbrev later : Reading → Result Verdict spec.Refusal → Type 0
  later R = Then (rows R) (λ N. Then (translates N) (rest R))

  pub negation_refused : (e : Refusal) → Refuses (Negates (reading_of f)) e → Refuses (FindsAsked text automaton) e
  negation_refused e h = second_refused (InputReads stated_limits (Text text)) later (reading_of f) reads e (both_refused (rows (reading_of f)) translates (rest (reading_of f)) e h)

  module _ (B : Automaton) (negates : Negates (reading_of f) (Ok B)) where
    pub given_refused : (e : Refusal) → Refuses (ReadsAutomaton (Ended automaton)) e → Refuses (FindsAsked text automaton) e
    given_refused e k =
        second_refused (InputReads stated_limits (Text text)) later (reading_of f) reads e
        (third_refused (rows (reading_of f)) translates (rest (reading_of f)) B negates e (both_refused takes (ReadsHoa stated_limits stated_form) (judges (reading_of f) B) e k))

    pub judged_step : (A : MarkedAutomaton) → ReadsAutomaton (Ended automaton) (Ok A) → {F : Type 0} (view : F → Verdict) (r : Result F Refusal) → TakesStep (judges (reading_of f) B A) view r → TakesStep (FindsAsked text automaton) view r
    judged_step A a view r k =
        second_step (InputReads stated_limits (Text text)) later view (reading_of f) reads r
        (third_step (rows (reading_of f)) translates (rest (reading_of f)) view B negates r (third_step takes (ReadsHoa stated_limits stated_form) (judges (reading_of f) B) view A a r k))

-- ---- names

take_one : (names : List (List ℕ)) (p : ℕ) → p < length names → take (p + 1) names ≡ take p names ++ slice_index_or names p [] ∷ []
take_one names p l = ap (λ n. take n names) (one_more_is p) ∙ take-suc names p [] l
  where
    one_more_is : (p : ℕ) → p + 1 ≡ suc p
    one_more_is p = omega arith

-- one more name in a row
pub one_more : (names : List (List ℕ)) (p : ℕ) (t u v name : List ℕ) → p < length names → t ≡ names_text (take p names) → name ≡ slice_index_or names p [] → u ≡ t ++ name → v ≡ u ++ 0 ∷ [] → v ≡ names_text (take (p + 1) names)
one_more names p t u v name l et en eu ev =
    ev
    ∙ ap (λ x. x ++ 0 ∷ []) (eu ∙ ap₂ (λ x y. x ++ y) et en)
    ∙ append_assoc (names_text (take p names)) (slice_index_or names p []) (0 ∷ [])
    ∙ ap (λ x. names_text (take p names) ++ x) (sym (append-nil (slice_index_or names p [] ++ 0 ∷ [])))
    ∙ sym (ap names_text (take_one names p l) ∙ flat_map-append (λ (n : List ℕ). n ++ 0 ∷ []) (take p names) (slice_index_or names p [] ∷ []))
