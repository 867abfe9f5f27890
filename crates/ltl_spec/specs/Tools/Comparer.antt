-- What `ltlcompare` answers: the first refusal in the stated order, or how two formulas compare, with words that tell them apart.
use Rattle.std.specs.Prelude.{◌≡◌, ◌⊎◌, ℕ, List, [], ◌++◌, Option, Some, None, Result, Ok, Err, codes, ⊤}
use Rattle.ltl_spec.specs.Automata.ClaimText.{line}
use Rattle.ltl_spec.specs.Semantics.Word.{Lasso}
use Rattle.ltl_spec.specs.Words.LassoText.{lasso_text}
use Rattle.ltl_spec.specs.Checking.Comparison.{Comparison}
use Rattle.ltl_spec.specs.Tools.Limits.{Limits}
use Rattle.ltl_spec.specs.Tools.Outcome.{Answer, FormulaWord, Input, Failed, IsBeginningOf, IsGiven, IsNeverShort, Seen, TellsMessage, input_of, printed}
use Rattle.ltl_spec.specs.Tools.Programs.{InputReads}
use Rattle.ltl_spec.specs.Tools.Refusal.{Refusal, BadFormula, CannotWrite, Checker, OutOfMemory, Usage, refusal_text, status_of}
use Rattle.ltl_spec.specs.Tools.Stage.{Broken}
use Rattle.ltl_spec.specs.Tools.Comparison.{Compares}

-- what the words of the comparer ask for
pub record ComparerPlan : Type 0 where
  pub first : FormulaWord
  pub second : FormulaWord

-- what a refusal is about: the text of the first or of the second formula, or something else
pub data Subject : Type 0 where
  First Second Other : Subject

abbrev pub subject_text : Subject → List ℕ
subject_text First = codes "first "
subject_text Second = codes "second "
subject_text Other = []

-- a formula with a wrong byte is named
abbrev pub subject_of_text : Subject → Refusal → List ℕ
subject_of_text subject (BadFormula place kind) = subject_text subject
subject_of_text subject _ = []

-- the text of a refusal: the checker's, but for the usage, and which formula it is about
abbrev pub comparer_text : Limits → Subject → Refusal → List ℕ
comparer_text l subject Usage = codes "usage: ltlcompare (-f formula | -F file) (-g formula | -G file)"
comparer_text l subject r = subject_of_text subject r ++ refusal_text l Checker r

abbrev pub comparer_message : Limits → Subject → Refusal → List ℕ
comparer_message l subject r = line (codes "ltlcompare: " ++ comparer_text l subject r)

-- no output, the message and the status of the refusal
abbrev pub comparer_refused : Limits → Subject → Refusal → Answer
comparer_refused l subject r = record { output = []; message = comparer_message l subject r; status = status_of r }

-- ---- how two formulas compare, by the words that satisfy one of them alone: there is none exactly where that one implies the other

abbrev pub relation_text : Option Lasso → Option Lasso → List ℕ
relation_text None None = codes "equivalent"
relation_text None (Some w) = codes "first implies second"
relation_text (Some v) None = codes "second implies first"
relation_text (Some v) (Some w) = codes "incomparable"

-- 0 if the formulas are equivalent
abbrev pub relation_status : Option Lasso → Option Lasso → ℕ
relation_status None None = 0
relation_status (Some v) second = 1
relation_status None (Some w) = 1

abbrev pub word_line : List ℕ → Option Lasso → List ℕ
word_line label None = []
word_line label (Some w) = line (label ++ lasso_text w)

abbrev pub comparison_text : Comparison → List ℕ
comparison_text c = line (relation_text c.first_only c.second_only) ++ word_line (codes "first only: ") c.first_only ++ word_line (codes "second only: ") c.second_only

abbrev pub comparison_answer : Comparison → Answer
comparison_answer c = printed (comparison_text c) (relation_status c.first_only c.second_only)

-- ---- runs

-- a read of the input failed
abbrev pub HasFailed : Input → Type 0
HasFailed (Failed bytes) = ⊤
HasFailed input = ⊥

-- the refusal of a step, or an answer for its value
abbrev pub AnswersBy : {A : Type 0} → (Result A Refusal → Type 0) → (Refusal → Answer) → (A → Answer → Type 0) → Answer → Type 0
AnswersBy {A} Step refused Value a = ((e : Refusal) × Step (Err e) × (a ≡ refused e)) ⊎ ((v : A) × Step (Ok v) × Value v a)

module _ (l : Limits) (p : ComparerPlan) (first second : Input) where
  -- The answers of the comparer: the first formula is read, and then the second one; of words that tell them apart any may be printed
  abbrev pub ComparerAnswers : Answer → Type 0
  ComparerAnswers =
      AnswersBy (InputReads l (input_of p.first first)) (comparer_refused l First) (λ R.
      AnswersBy (InputReads l (input_of p.second second)) (comparer_refused l Second) (λ S.
      AnswersBy (Compares l R S) (comparer_refused l Other) (λ c a. a ≡ comparison_answer c)))

  -- Where lack of memory is never reported: as for the first formula, or if a read of the second one failed
  abbrev pub ComparerNeverShort : Type 0
  ComparerNeverShort = IsNeverShort l.formula_bytes (Some p.first) first ⊎ HasFailed (input_of p.second second)

  -- A write of the output or the flush failed, behind which there was no call, and a beginning went out. There was no refusal
  abbrev pub IsComparerCutOff : Seen → Type 0
  IsComparerCutOff seen =
      (a : Answer) × ComparerAnswers a × (a.message ≡ []) × (seen.status ≡ status_of CannotWrite) × IsBeginningOf seen.output a.output
      × (seen.output_stage ≡ Broken) × TellsMessage (comparer_message l Other CannotWrite) seen

  -- what is promised of a run: a right answer, lack of memory before the first byte of output, or a report of a failed write
  abbrev pub MayCompare : Seen → Type 0
  MayCompare seen =
      ((a : Answer) × ComparerAnswers a × IsGiven seen a) ⊎ ¬ ComparerNeverShort × IsGiven seen (comparer_refused l Other OutOfMemory) ⊎ IsComparerCutOff seen
