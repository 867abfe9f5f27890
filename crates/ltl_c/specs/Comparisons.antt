-- The comparison of two formulas in memory, and how a call returns it.
use Rattle.std.specs.Prelude.{◌≡◌, ◌⊎◌, ℕ, ◌≤◌, is_none, false, List, [], length, Option, Some, None, Result, Ok, Err, MatchResult}
use Rattle.ltl_spec.specs.Checking.Comparison.{Comparison, IsComparison}
use Rattle.ltl_spec.specs.Formulas.Formula.{Reading}
use Rattle.ltl_spec.specs.Semantics.Word.{Lasso}
use Rattle.ltl_spec.specs.Tools.Comparer.{ComparerAnswers, ComparerNeverShort, ComparerPlan, MayCompare, Subject, First, Second, Other, comparer_message, comparer_refused, comparison_text, relation_status}
use Rattle.ltl_spec.specs.Tools.Comparison.{Compares}
use Rattle.ltl_spec.specs.Tools.Limits.{stated_limits}
use Rattle.ltl_spec.specs.Tools.Outcome.{Given, NotOpened, Text}
use Rattle.ltl_spec.specs.Tools.Programs.{InputReads}
use Rattle.ltl_spec.specs.Tools.Refusal.{Refusal, OutOfMemory, status_of}
use Rattle.ltl_spec.specs.Words.LassoText.{lasso_text}
use Rattle.ltl_syntax.specs.FormulaView.{FormulaView, reading_of}
use Rattle.ltl_cli.specs.Inputs.{RefusesInput}
use Rattle.ltl_cli.specs.Refusals.{refusal_of}
use Rattle.ltl_c.specs.declared.comparison.Compared.{Compared}
use Rattle.ltl_c.specs.declared.subject.Refused.{Refused}
use Rattle.ltl_c.specs.declared.subject.Subject as code
use Rattle.ltl_c.specs.declared.subject.Subject.TheVariants as subject
use Rattle.ltl_c.specs.Arrays.{put_over}
use Rattle.ltl_c.specs.Calls.{run_with, too_short}
use Rattle.ltl_c.specs.Codes.{code_for, subject_in, subject_number}

-- ---- the run of the program

-- both formulas stand in the command line
abbrev pub comparer_asked : List ℕ → List ℕ → ComparerPlan
comparer_asked first second = record { first = Given first; second = Given second }

-- the program may end with this status, this output and this message
abbrev pub MayEndComparing : List ℕ → List ℕ → ℕ → List ℕ → List ℕ → Type 0
MayEndComparing first second status output message = MayCompare stated_limits (comparer_asked first second) NotOpened NotOpened (run_with status output message)

-- ---- the steps

-- the formula of a text
abbrev pub ReadsText : List ℕ → Result Reading Refusal → Type 0
ReadsText text = InputReads stated_limits (Text text)

-- the step is refused, or memory ran out in it
abbrev pub IsRefusedIn : {A : Type 0} → (Result A Refusal → Type 0) → Refusal → Type 0
IsRefusedIn Step r = (r ≡ OutOfMemory) ⊎ Step (Err r)

-- both texts are read as these formulas
abbrev pub AreRead : List ℕ → List ℕ → Reading → Reading → Type 0
AreRead first second R S = ReadsText first (Ok R) × ReadsText second (Ok S)

-- the first text is refused; or the second one, behind a first one that isn't; or the comparison of what they say
abbrev pub IsRefusedAt : List ℕ → List ℕ → Subject → Refusal → Type 0
IsRefusedAt first second First r = IsRefusedIn (ReadsText first) r
IsRefusedAt first second Second r = (R : Reading) × ReadsText first (Ok R) × IsRefusedIn (ReadsText second) r
IsRefusedAt first second Other r = (R : Reading) × (S : Reading) × AreRead first second R S × IsRefusedIn (Compares stated_limits R S) r

-- ---- the buffers

-- the texts of both words, or the contents of both buffers
pub record Texts : Type 0 where
  pub first_only : List ℕ
  pub second_only : List ℕ

abbrev pub texts : List ℕ → List ℕ → Texts
texts first_only second_only = record { first_only = first_only; second_only = second_only }

-- the text of a word; empty if there is none
abbrev pub text_of : Option Lasso → List ℕ
text_of None = []
text_of (Some w) = lasso_text w

abbrev pub texts_of : Comparison → Texts
texts_of c = texts (text_of c.first_only) (text_of c.second_only)

-- the buffers have room for the texts
abbrev pub HaveRoom : Texts → Texts → Type 0
HaveRoom t old = (length t.first_only ≤ length old.first_only) × (length t.second_only ≤ length old.second_only)

-- both texts are at the beginnings of their buffers, and the call returns the run's status; or a buffer is too short, and both are unchanged
abbrev pub DeliversBoth : ℕ → Texts → Texts → Texts → ℕ → Type 0
DeliversBoth ended t old new status =
    (status ≡ ended) × HaveRoom t old × (new ≡ texts (put_over t.first_only old.first_only) (put_over t.second_only old.second_only))
    ⊎ (status ≡ too_short) × ¬ (HaveRoom t old) × (new ≡ old)

-- ---- what the caller gets

-- the lengths of both texts, and which formula implies the other one
abbrev pub compared : Comparison → Compared
compared c = record {
  first_only_length = length (text_of c.first_only);
  second_only_length = length (text_of c.second_only);
  first_implies_second = is_none c.first_only;
  second_implies_first = is_none c.second_only;
  subject = subject_number Other;
  refusal = code_for None;
}

-- a refusal, and which formula it is about
abbrev pub not_compared : Subject → Refusal → Compared
not_compared subject reason = record {
  first_only_length = 0;
  second_only_length = 0;
  first_implies_second = false;
  second_implies_first = false;
  subject = subject_number subject;
  refusal = code_for (Some reason);
}

-- ---- what a call returns

-- The formulas are compared as the definitions say, within the limits. The program prints both words for these texts
pub record GivesComparison (first second : List ℕ) (found : Compared) (old new : Texts) (status : ℕ) : Type 0 where
  pub left : Reading
  pub right : Reading
  pub comparison : Comparison
  pub reads : AreRead first second left right
  pub compares : IsComparison left right comparison
  pub made : Compares stated_limits left right (Ok comparison)
  pub shown : MayEndComparing first second (relation_status comparison.first_only comparison.second_only) (comparison_text comparison) []
  pub told : found ≡ compared comparison
  pub delivered : DeliversBoth (relation_status comparison.first_only comparison.second_only) (texts_of comparison) old new status

-- A text or the comparison is refused, as the program reports. Both buffers are unchanged
pub record RefusesComparison (first second : List ℕ) (found : Compared) (old new : Texts) (status : ℕ) : Type 0 where
  pub subject : Subject
  pub reason : Refusal
  pub cause : IsRefusedAt first second subject reason
  pub shown : MayEndComparing first second status [] (comparer_message stated_limits subject reason)
  pub ended : status ≡ status_of reason
  pub told : found ≡ not_compared subject reason
  pub kept : new ≡ old

abbrev pub HandsComparison : List ℕ → List ℕ → Compared → Texts → Texts → ℕ → Type 0
HandsComparison first second found old new status = GivesComparison first second found old new status ⊎ RefusesComparison first second found old new status

-- ---- on the way there

-- the text is read as this formula, or refused
abbrev pub IsReadAs : code.Subject → List ℕ → Result FormulaView Refused → Type 0
IsReadAs subject text r = MatchResult r (λ f. ReadsText text (Ok (reading_of f))) (λ e. (e.subject ≡ subject) × RefusesInput (Given text) NotOpened e.refusal)

-- two formulas compare like this, or their comparison is refused
abbrev pub IsRelated : {T : Type 0} → Reading → Reading → (T → Comparison) → Result T Refused → Type 0
IsRelated R S view r =
    MatchResult r (λ c. IsComparison R S (view c) × Compares stated_limits R S (Ok (view c)))
    (λ e. (e.subject ≡ subject.Other) × IsRefusedIn (Compares stated_limits R S) (refusal_of e.refusal))

-- the formulas of two texts compare like this
pub record AreCompared (first second : List ℕ) (c : Comparison) : Type 0 where
  pub left : Reading
  pub right : Reading
  pub reads : AreRead first second left right
  pub compares : IsComparison left right c
  pub made : Compares stated_limits left right (Ok c)

-- a text or the comparison is refused; the program reports that, or lack of memory, where it may
pub record IsNotCompared (first second : List ℕ) (subject : Subject) (reason : Refusal) : Type 0 where
  pub cause : IsRefusedAt first second subject reason
  pub answers : (reason ≡ OutOfMemory) × ¬ (ComparerNeverShort stated_limits (comparer_asked first second) NotOpened NotOpened)
      ⊎ ComparerAnswers stated_limits (comparer_asked first second) NotOpened NotOpened (comparer_refused stated_limits subject reason)

abbrev pub ComparesTexts : {T : Type 0} → List ℕ → List ℕ → (Comparison → T → Type 0) → Result T Refused → Type 0
ComparesTexts first second Is r =
    MatchResult r (λ t. (c : Comparison) × AreCompared first second c × Is c t) (λ e. IsNotCompared first second (subject_in e.subject) (refusal_of e.refusal))

-- such texts, and what the caller gets of such a comparison, with the status of the program
pub record IsToldOf (c : Comparison) (t : Texts) (found : Compared) (status : ℕ) : Type 0 where
  pub both : t ≡ texts_of c
  pub answer : found ≡ compared c
  pub ended : status ≡ relation_status c.first_only c.second_only
