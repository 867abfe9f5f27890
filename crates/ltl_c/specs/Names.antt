-- The names of a formula's propositions, as a call returns them.
use Rattle.std.specs.Prelude.{◌≡◌, ◌⊎◌, ℕ, List, [], ◌∷◌, ◌++◌, Some, None, Result, Ok, Err}
use Rattle.std.specs.List.{flat_map}
use Rattle.ltl_spec.specs.Semantics.Word.{Name}
use Rattle.ltl_spec.specs.Tools.Limits.{stated_limits}
use Rattle.ltl_spec.specs.Tools.Refusal.{Refusal, OutOfMemory, status_of}
use Rattle.ltl_spec.specs.Tools.Outcome.{Text, Then}
use Rattle.ltl_spec.specs.Tools.Programs.{InputReads}
use Rattle.ltl_c.specs.declared.refusal_code.RefusalCode.{RefusalCode}
use Rattle.ltl_c.specs.Calls.{Delivers}
use Rattle.ltl_c.specs.Codes.{code_for}

-- the names, each followed by a zero byte
abbrev pub names_text : List Name → List ℕ
names_text names = flat_map (λ n. n ++ 0 ∷ []) names

-- the names of the formula of a text
abbrev pub NamesOf : List ℕ → Result (List ℕ) Refusal → Type 0
NamesOf text = Then (InputReads stated_limits (Text text)) (λ R r. r ≡ Ok (names_text R.names))

-- the text is refused
pub record RefusesNames (text : List ℕ) (code : RefusalCode) (old new : List ℕ) (count status : ℕ) : Type 0 where
  pub reason : Refusal
  pub right : (reason ≡ OutOfMemory) ⊎ NamesOf text (Err reason)
  pub coded : code ≡ code_for (Some reason)
  pub delivered : Delivers (status_of reason) [] old new count status

-- the text has a formula, whose names are delivered
pub record GivesNames (text : List ℕ) (code : RefusalCode) (old new : List ℕ) (count status : ℕ) : Type 0 where
  pub names : List ℕ
  pub right : NamesOf text (Ok names)
  pub coded : code ≡ code_for None
  pub delivered : Delivers 0 names old new count status

abbrev pub HandsNames : List ℕ → RefusalCode → List ℕ → List ℕ → ℕ → ℕ → Type 0
HandsNames text code old new count status = RefusesNames text code old new count status ⊎ GivesNames text code old new count status
