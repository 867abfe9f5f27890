-- The checker's verdict on two texts in memory, and how a call returns it.
use Rattle.std.specs.Prelude.{◌≡◌, ℕ, Bool, true, false, List, [], Result, Ok}
use Rattle.ltl_spec.specs.Checking.Check.{Verdict, Contained, Violated}
use Rattle.ltl_spec.specs.Hoa.HoaReading.{stated_form}
use Rattle.ltl_spec.specs.Words.LassoText.{lasso_text}
use Rattle.ltl_spec.specs.Tools.Limits.{stated_limits}
use Rattle.ltl_spec.specs.Tools.Refusal.{Refusal}
use Rattle.ltl_spec.specs.Tools.Outcome.{Ended, NotOpened, Then}
use Rattle.ltl_spec.specs.Tools.Programs.{CheckerFinds}
use Rattle.ltl_c.specs.Calls.{checker_asked}

-- the verdict on a formula's text and an automaton's
abbrev pub FindsAsked : List ℕ → List ℕ → Result Verdict Refusal → Type 0
FindsAsked text automaton = CheckerFinds stated_limits stated_form (checker_asked text) NotOpened (Ended automaton)

abbrev pub is_contained : Verdict → Bool
is_contained Contained = true
is_contained (Violated w) = false

-- the text of the violating word; empty if there is none
abbrev pub word_text : Verdict → List ℕ
word_text Contained = []
word_text (Violated w) = lasso_text w

-- the verdict that the caller gets
pub record Saying : Type 0 where
  pub contained : Bool
  pub text : List ℕ

abbrev pub said : Bool → List ℕ → Saying
said contained text = record { contained = contained; text = text }

abbrev pub SaysVerdict : List ℕ → List ℕ → Result Saying Refusal → Type 0
SaysVerdict text automaton = Then (FindsAsked text automaton) (λ v r. r ≡ Ok (said (is_contained v) (word_text v)))

-- the status of the program
abbrev pub verdict_status : Bool → ℕ
verdict_status true = 0
verdict_status false = 1
