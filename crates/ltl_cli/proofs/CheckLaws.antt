-- What the checker knows before it prints.
use Rattle.std.proofs.Common.{◌≡◌, sym, subst, refl, ℕ, ◌≤◌, ◌<◌, true, length, inl, inr, ◌⊎◌, List, [], arith}
use Rattle.std.specs.Prelude.{Result, Ok, Err}
use Rattle.ltl_spec.specs.Formulas.Formula.{Reading}
use Rattle.ltl_spec.specs.Formulas.Names.{unified}
use Rattle.ltl_spec.specs.Semantics.Word.{Name, Lasso}
use Rattle.ltl_spec.specs.Semantics.Language.{AcceptsViolations}
use Rattle.ltl_spec.specs.NormalForms.Normal.{Normal}
use Rattle.ltl_spec.specs.NormalForms.NormalForm.{core}
use Rattle.ltl_spec.specs.Automata.Automaton.{Automaton}
use Rattle.ltl_spec.specs.Construction.Translation.{IsTranslation}
use Rattle.ltl_spec.specs.Hoa.HoaReading.{MarkedAutomaton, stated_form}
use Rattle.ltl_spec.specs.Checking.Check.{Verdict, Contained, Violated, IsVerdict, IsCommon, IsViolation, product_size}
use Rattle.ltl_spec.specs.Tools.Limits.{stated_limits}
use Rattle.ltl_spec.specs.Tools.Refusal as spec
use Rattle.ltl_spec.specs.Tools.Stage.{Stage, Open, Closed}
use Rattle.ltl_spec.specs.Tools.Outcome as outcome
use Rattle.ltl_spec.specs.Tools.Outcome.{Input, Then}
use Rattle.ltl_spec.specs.Tools.Programs.{InputReads, Judges, KeepsRows, ReadsHoa, Translates, plain_options, verdict_answer}
use Rattle.ltl_spec.proofs.Semantics.LanguageLaws.{translation_violations}
use Rattle.ltl_hoa.specs.declared.fault.HoaFault.{HoaFault}
use Rattle.ltl_hoa.specs.declared.fault.HoaFault.TheVariants as hoa
use Rattle.ltl_hoa.specs.Reading.{AnswersHeld}
use Rattle.ltl_hoa.specs.Reading.{LeavesStage}
use Rattle.ltl_streams.specs.Streams.{SourceState}
use Rattle.ltl_check.specs.declared.fault.CheckFault.{CheckFault}
use Rattle.ltl_check.specs.declared.fault.CheckFault.TheVariants as fault
use Rattle.ltl_cli.specs.declared.refusal.Refusal.{Refusal}
use Rattle.ltl_cli.specs.declared.refusal.Refusal.TheVariants.{OutOfMemory}
use Rattle.ltl_words.specs.declared.request.Plan.{Plan}
use Rattle.ltl_cli.specs.Refusals.{TakesStep, of_check, of_hoa, refusal_of}
use Rattle.ltl_words.specs.Plans.{formula_word}
use Rattle.ltl_cli.specs.Inputs.{IsFailed, RefusesFor, RefusesInput, RefusesUnless, TakesFewer, TakesUpTo, WasStream, most_of_automaton}
use Rattle.ltl_cli.specs.Checks.{CheckNeverShort, FindsVerdict, IsChecked, Negates, ReadsAutomaton, RefusesCheck}
use Rattle.ltl_cli.proofs.InputLaws.{not_at_fault, not_long, reads_takes}
use Rattle.ltl_cli.proofs.RunLaws.{DecidesAnswers, input_refused, input_takes, taken_takes, then_takes}
use Rattle.ltl_spec.proofs.Tools.StepLaws.{never, then_ok}

-- ---- inputs

failed_fault : (file : Input) → IsFailed file → outcome.IsAtFault file
failed_fault (outcome.Failed bs) f = f
failed_fault (outcome.Text bs) f = absurd f
failed_fault outcome.NotOpened f = absurd f
failed_fault (outcome.Ended bs) f = absurd f

-- ---- steps

-- of two steps one refuses, and so do these with a third one
then_refused : {A B C : Type 0} (First : Result A spec.Refusal → Type 0) (Second : A → Result B spec.Refusal → Type 0) (Third : B → Result C spec.Refusal → Type 0) (e : spec.Refusal)
    → Then First Second (Err e) → Then First (λ a. Then (Second a) Third) (Err e)
then_refused {A} {B} {C} First Second Third e (inl (x, h, q)) = inl (x, h, moved e x q)
  where
    moved : (x y : spec.Refusal) → ◌≡◌ {A = Result B spec.Refusal} (Err x) (Err y) → ◌≡◌ {A = Result C spec.Refusal} (Err x) (Err y)
    moved x y p = cc
then_refused First Second Third e (inr (a, h, k)) = inr (a, h, inl (e, k, refl))

-- both pass, and then the third one is taken
then_goes : {A B C : Type 0} (First : Result A spec.Refusal → Type 0) (Second : A → Result B spec.Refusal → Type 0) (Third : B → Result C spec.Refusal → Type 0) (b : B) (r : Result C spec.Refusal)
    → Then First Second (Ok b) → Third b r → Then First (λ a. Then (Second a) Third) r
then_goes First Second Third b r (inl (x, h, q)) t = absurd (never b x (sym q))
then_goes First Second Third b r (inr (a, h, k)) t = inr (a, h, inr (b, k, t))

-- what follows the automaton of the negation
abbrev Rest : Reading → Input → Automaton → Result Verdict spec.Refusal → Type 0
Rest R file B = Then (λ r. r ≡ outcome.taken stated_limits.hoa_bytes file) (λ text. Then (ReadsHoa stated_limits stated_form text) (λ A. Judges stated_limits A R.names B (IsViolation A R)))

-- ---- the formula and its automaton

-- memory may have run out for the formula, and no read of the automaton failed
never_either : {Never : Type 0} (file : Input) → ¬ Never → ¬ (IsFailed file) → ¬ (Never ⊎ IsFailed file)
never_either file n f (inl h) = n h
never_either file n f (inr h) = f h

-- the formula was refused
pub formula_refused : (p : Plan) (input file : Input) → ¬ (IsFailed file) → (e : Refusal) → RefusesInput (formula_word p.formula) input e → RefusesCheck p input file e
formula_refused p input file f e h =
    widened (input_refused (formula_word p.formula) input (λ R. Then (KeepsRows stated_limits (core R.formula true true)) (λ N. Then (Translates stated_limits N plain_options) (Rest R file))) e h)
  where
    widened : RefusesFor (formula_word p.formula) input (FindsVerdict p input file) e → RefusesCheck p input file e
    widened (inl (m, n)) = inl (m, never_either file n f)
    widened (inr k) = inr k

module _ (p : Plan) (input : Input) (R : Reading) (reads : InputReads stated_limits (outcome.input_of (formula_word p.formula) input) (Ok R)) where
  takes : (file : Input) → ¬ (IsFailed file) → ¬ (CheckNeverShort p input file)
  takes file = never_either file (reads_takes (formula_word p.formula) input R reads)

  -- the negation has no automaton
  pub negation_refused : (file : Input) → ¬ (IsFailed file) → (e : Refusal) → (e ≡ OutOfMemory) ⊎ Negates R (Err (refusal_of e)) → RefusesCheck p input file e
  negation_refused file f e (inl h) = inl (h, takes file f)
  negation_refused file f e (inr h) =
      inr (inr (R, reads, then_refused (KeepsRows stated_limits (core R.formula true true)) (λ N. Translates stated_limits N plain_options) (Rest R file) (refusal_of e) h))

  module _ (B : Automaton) (negates : Negates R (Ok B)) (file : Input) where
    found : (r : Result Verdict spec.Refusal) → Rest R file B r → FindsVerdict p input file r
    found r h = inr (R, reads, then_goes (KeepsRows stated_limits (core R.formula true true)) (λ N. Translates stated_limits N plain_options) (Rest R file) B r negates h)

    -- the given automaton was refused
    pub automaton_refused : (e : Refusal) → RefusesUnless (IsFailed file) (ReadsAutomaton file) e → RefusesCheck p input file e
    automaton_refused e (inl (h, f)) = inl (h, takes file f)
    automaton_refused e (inr h) =
        inr (found (Err (refusal_of e)) (then_refused (λ r. r ≡ outcome.taken stated_limits.hoa_bytes file) (ReadsHoa stated_limits stated_form) (λ A. Judges stated_limits A R.names B (IsViolation A R)) (refusal_of e) h))

    module _ (A : MarkedAutomaton) (automaton : ReadsAutomaton file (Ok A)) where
      judges : (r : Result Verdict spec.Refusal) → Judges stated_limits A R.names B (IsViolation A R) r → FindsVerdict p input file r
      judges r h = found r (then_goes (λ s. s ≡ outcome.taken stated_limits.hoa_bytes file) (ReadsHoa stated_limits stated_form) (λ M. Judges stated_limits M R.names B (IsViolation M R)) A r automaton h)

      -- the automaton was read
      whole : ¬ (IsFailed file)
      whole =
          let (text, q, reads) = then_ok (λ s. s ≡ outcome.taken stated_limits.hoa_bytes file) (ReadsHoa stated_limits stated_form) A automaton in
          λ f. not_at_fault stated_limits.hoa_bytes text reads.within.bytes file q (failed_fault file f)

      -- there is no verdict
      check_refused : (e : Refusal) → (e ≡ OutOfMemory) ⊎ Judges stated_limits A R.names B (IsViolation A R) (Err (refusal_of e)) → RefusesCheck p input file e
      check_refused e (inl h) = inl (h, takes file whole)
      check_refused e (inr h) = inr (judges (Err (refusal_of e)) h)

      -- or one
      pub judged_found : {T : Type 0} (verdict : T → Verdict) (r : Result T Refusal) → TakesStep (Judges stated_limits A R.names B (IsViolation A R)) verdict r → IsChecked p input file verdict r
      judged_found verdict (Ok t) h = judges (Ok (verdict t)) h
      judged_found verdict (Err e) h = check_refused e h

-- the automaton of the negation accepts exactly the violations
pub negates_violations : (R : Reading) (B : Automaton) → Negates R (Ok B) → AcceptsViolations B R.formula
negates_violations R B (inl (e, h, q)) = absurd (never B e (sym q))
negates_violations R B (inr (M, k, h)) = translation_violations R.formula true plain_options B (subst (λ (N : Normal). IsTranslation N plain_options B) k.0 h.0)

-- ---- the given automaton

-- what was read of it is some input
pub automaton_from : (old new : SourceState) (A : MarkedAutomaton) → AnswersHeld old.rest (Ok A) → TakesUpTo old.rest new.rest most_of_automaton → LeavesStage (Ok A) new.stage
    → (file : Input) × WasStream most_of_automaton old new file × ReadsAutomaton file (Ok A)
automaton_from old new A (text, s, h) few e = (outcome.Ended text, (s, record { taken = few; stage = inr e }), inr (text, refl, h))

few_failed : (bs : List ℕ) → length bs < most_of_automaton → ReadsAutomaton (outcome.Failed bs) (Err spec.CannotRead)
few_failed bs l = inl (spec.CannotRead, rw (not_long stated_limits.hoa_bytes bs l) refl, refl)

either_well : {P : Type 0} (s : Stage) → (s ≡ Closed) ⊎ P × (s ≡ Open) → (s ≡ Open) ⊎ (s ≡ Closed)
either_well s (inl e) = inr e
either_well s (inr (p, e)) = inl e

-- or why it was refused
pub automaton_fault : (old new : SourceState) (f : HoaFault) → AnswersHeld old.rest (Err f) → TakesUpTo old.rest new.rest most_of_automaton → (f ≡ hoa.CannotRead → TakesFewer old.rest new.rest most_of_automaton)
    → LeavesStage (Err f) new.stage → (file : Input) × WasStream most_of_automaton old new file × RefusesUnless (IsFailed file) (ReadsAutomaton file) (of_hoa f)
automaton_fault old new (hoa.AtLine line kind) (text, s, h) few fewer e = (outcome.Ended text, (s, record { taken = few; stage = either_well new.stage e }), inr (inr (text, refl, h)))
automaton_fault old new hoa.CannotRead a few fewer e =
    let (bs, c, l) = fewer refl in
    (outcome.Failed bs, record { taken = c; few = l; stage = e }, inr (few_failed bs l))
automaton_fault old new hoa.OutOfMemory (text, s, h) few fewer e = (outcome.Ended text, (s, record { taken = few; stage = swapped e }), inl (refl, λ z. z))
  where
    swapped : (new.stage ≡ Closed) ⊎ (new.stage ≡ Open) → (new.stage ≡ Open) ⊎ (new.stage ≡ Closed)
    swapped (inl c) = inr c
    swapped (inr o) = inl o

-- ---- the verdict

-- a verdict on common words is one on violations
pub verdict_moves : (A : MarkedAutomaton) (R : Reading) (B : Automaton) → AcceptsViolations B R.formula → (v : Verdict) → IsVerdict A R.names B (IsCommon A R.names B) v → IsVerdict A R.names B (IsViolation A R) v
verdict_moves A R B violations Contained h = λ w lasso k. h w lasso (k.0, (violations R.names w lasso.cycles).1 k.1)
verdict_moves A R B violations (Violated w) (l, c, m, n) = (l, (c.0, (violations R.names w l.cycles).0 c.1), m, n)

pub verdict_refused : {T : Type 0} (A : MarkedAutomaton) (names : List Name) (B : Automaton) (Found : Lasso → Type 0) (e : CheckFault)
    → (◌≡◌ {A = Result T CheckFault} (Err e) (Err fault.TooManyPropositions) → stated_limits.propositions < length (unified A.names names))
    → (◌≡◌ {A = Result T CheckFault} (Err e) (Err fault.ProductTooLarge) → (length (unified A.names names) ≤ stated_limits.propositions) × (stated_limits.product < product_size A names B))
    → (of_check e ≡ OutOfMemory) ⊎ Judges stated_limits A names B Found (Err (refusal_of (of_check e)))
verdict_refused A names B Found fault.TooManyPropositions many large = inr (many refl)
verdict_refused A names B Found fault.ProductTooLarge many large = inr (large refl)
verdict_refused A names B Found fault.OutOfMemory many large = inl refl

-- ---- what was found decides the answers

pub checker_decides : (p : Plan) (input file : Input) → DecidesAnswers (CheckNeverShort p input file) spec.Checker p input file (FindsVerdict p input file) (verdict_answer stated_limits)
checker_decides p input file = record { right = λ r h. (r, h, refl); takes = λ t. t; other = other; silent = silent; low = low }
  where
    other : FindsVerdict p input file (Err spec.OutOfMemory) → ⊥
    other = then_takes (InputReads stated_limits (outcome.input_of (formula_word p.formula) input)) (λ R. Then (KeepsRows stated_limits (core R.formula true true)) (λ N. Then (Translates stated_limits N plain_options) (Rest R file)))
        (input_takes (outcome.input_of (formula_word p.formula) input))
        (λ R. then_takes (KeepsRows stated_limits (core R.formula true true)) (λ N. Then (Translates stated_limits N plain_options) (Rest R file)) (λ z. z)
        (λ N. then_takes (Translates stated_limits N plain_options) (Rest R file) (λ z. z)
        (λ B. then_takes (λ r. r ≡ outcome.taken stated_limits.hoa_bytes file) (λ text. Then (ReadsHoa stated_limits stated_form text) (λ A. Judges stated_limits A R.names B (IsViolation A R))) (taken_takes stated_limits.hoa_bytes file)
        (λ text. then_takes (ReadsHoa stated_limits stated_form text) (λ A. Judges stated_limits A R.names B (IsViolation A R)) (λ z. z) (λ A z. z)))))

    silent : (v : Verdict) → (verdict_answer stated_limits v).message ≡ []
    silent Contained = refl
    silent (Violated w) = refl

    low : (v : Verdict) → (verdict_answer stated_limits v).status ≤ 1
    low Contained = omega arith
    low (Violated w) = omega arith
