-- Steps of an answer, and what its status says.
use Rattle.std.proofs.Common.{◌≡◌, ◌∙◌, ap, sym, subst, refl, ℕ, ◌≤◌, nat_lt, ltb-true, Bool, true, false, inl, inr, List, length, Some, arith}
use Rattle.std.specs.Prelude.{Result, Ok, Err, if◌then◌else◌}
use Rattle.ltl_spec.specs.Formulas.Formula.{Reading}
use Rattle.ltl_spec.specs.Formulas.Grammar.{IsTextOf}
use Rattle.ltl_spec.specs.Formulas.Tokens.{tokens}
use Rattle.ltl_spec.specs.Hoa.HoaReading.{AcceptanceForm, MarkedAutomaton}
use Rattle.ltl_spec.specs.Tools.Limits.{Limits}
use Rattle.ltl_spec.specs.Tools.Refusal.{Refusal, Tool, CannotOpen, CannotRead, Usage, status_of}
use Rattle.ltl_spec.specs.Tools.Outcome.{Answer, Input, Text, NotOpened, Ended, Failed, IsPromised, Seen, Then, taken}
use Rattle.ltl_spec.specs.Tools.Readings.{IsAutomatonIn, IsFormulaIn, IsWholeInput}
use Rattle.ltl_spec.specs.Tools.Programs.{InputReads, ReadsFormula, ReadsHoa}
use Rattle.ltl_spec.specs.Tools.Run.{AutomatonReads}
use Rattle.ltl_spec.proofs.Formulas.BeginningLaws.{reads_once}

pub never : {A B : Type 0} (a : A) (b : B) → Err b ≡ Ok a → ⊥
never a b e = cc

pub same_ok : {A B : Type 0} (a b : A) → ◌≡◌ {A = Result A B} (Ok a) (Ok b) → a ≡ b
same_ok a b e = cc

pub same_some : {A : Type 0} (a b : A) → Some a ≡ Some b → a ≡ b
same_some a b e = cc

-- a step that passes
pub then_ok : {A B : Type 0} (First : Result A Refusal → Type 0) (Second : A → Result B Refusal → Type 0) (b : B) → Then First Second (Ok b) → (a : A) × First (Ok a) × Second a (Ok b)
then_ok First Second b (inl (e, h, q)) = absurd (never b e (sym q))
then_ok First Second b (inr w) = w

-- no refusal has the status of a result
pub refusals_high : (e : Refusal) → 2 ≤ status_of e
refusals_high Usage = omega arith
refusals_high _ = omega arith

-- what holds of each right answer, by its output and its status, and where the status is a refusal's, holds of each run
pub promise_holds : (l : Limits) (tool : Tool) (Answers : Answer → Type 0) (Tells : Seen → Type 0) (seen : Seen)
    → ((a : Answer) → Answers a → seen.status ≡ a.status → seen.output ≡ a.output → Tells seen) → (2 ≤ seen.status → Tells seen) → IsPromised l tool Answers seen → Tells seen
promise_holds l tool Answers Tells seen right high (inl (a, h, g)) = right a h g.0 g.1
promise_holds l tool Answers Tells seen right high (inr (inl g)) = high (let s = g.0 in omega (arith, s))
promise_holds l tool Answers Tells seen right high (inr (inr (a, h, m, s, w, b, z))) = high (omega (arith, s))

-- ---- inputs that are read to their end

taken_none : {A B : Type 0} (a : A) (e : B) → Ok a ≡ Err e → ⊥
taken_none a e h = cc

-- a read that failed behind the limit
long_none : (most : ℕ) (bytes text : List ℕ) → length text ≤ most → (long : Bool) → nat_lt most (length bytes) ≡ long → Ok text ≡ (if long then Ok bytes else Err CannotRead) → ⊥
long_none most bytes text few true h e = let more = ltb-true most (length bytes) h in let same = ap (λ (x : List ℕ). length x) (same_ok text bytes e) in absurd (omega (arith, few, more, same))
long_none most bytes text few false h e = taken_none text CannotRead e

-- what was taken of an input, if it is within the limit, is the whole input
pub whole_taken : (most : ℕ) (input : Input) (text : List ℕ) → Ok text ≡ taken most input → length text ≤ most → IsWholeInput input text
whole_taken most (Text bytes) text e few = inl (ap (λ (x : List ℕ). Text x) (sym (same_ok text bytes e)))
whole_taken most NotOpened text e few = absurd (taken_none text CannotOpen e)
whole_taken most (Ended bytes) text e few = inr (ap (λ (x : List ℕ). Ended x) (sym (same_ok text bytes e)))
whole_taken most (Failed bytes) text e few = absurd (long_none most bytes text few (nat_lt most (length bytes)) refl e)

-- the whole input is what is taken of it
taken_whole : (most : ℕ) (input : Input) (text : List ℕ) → IsWholeInput input text → Ok text ≡ taken most input
taken_whole most input text (inl e) = subst (λ (i : Input). Ok text ≡ taken most i) (sym e) refl
taken_whole most input text (inr e) = subst (λ (i : Input). Ok text ≡ taken most i) (sym e) refl

-- an input is one text
pub one_text : (input : Input) (s t : List ℕ) → IsWholeInput input s → IsWholeInput input t → t ≡ s
one_text input s t g h = same_ok t s (taken_whole 0 input t h ∙ sym (taken_whole 0 input s g))

module _ (l : Limits) where
  -- the step that reads a formula gives the one that the whole input reads as
  pub formula_in : (input : Input) (R : Reading) → InputReads l input (Ok R) → IsFormulaIn l input R
  formula_in input R h =
      let (text, took, reads) = then_ok (λ r. r ≡ taken l.formula_bytes input) (ReadsFormula l) R h in
      (text, whole_taken l.formula_bytes input text took reads.0, reads)

  -- and no other one
  pub formula_taken : (input : Input) (R : Reading) → IsFormulaIn l input R → InputReads l input (Ok R)
  formula_taken input R (text, whole, reads) = inr (text, taken_whole l.formula_bytes input text whole, reads)

  -- the same for an automaton
  pub automaton_in : (form : AcceptanceForm) (input : Input) (A : MarkedAutomaton) → AutomatonReads l form input (Ok A) → IsAutomatonIn l form input A
  automaton_in form input A h =
      let (text, took, reads) = then_ok (λ r. r ≡ taken l.hoa_bytes input) (ReadsHoa l form) A h in
      (text, whole_taken l.hoa_bytes input text took reads.within.bytes, reads)

  pub automaton_taken : (form : AcceptanceForm) (input : Input) (A : MarkedAutomaton) → IsAutomatonIn l form input A → AutomatonReads l form input (Ok A)
  automaton_taken form input A (text, whole, reads) = inr (text, taken_whole l.hoa_bytes input text whole, reads)

  -- an input reads as one formula
  pub one_formula : (input : Input) (R S : Reading) → IsFormulaIn l input R → IsFormulaIn l input S → R ≡ S
  one_formula input R S (t, p, g) (u, q, h) = reads_once (tokens t) R S g.1 (subst (λ (x : List ℕ). IsTextOf x S) (one_text input t u p q) h.1)
