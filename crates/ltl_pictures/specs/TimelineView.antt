-- The values that a timeline is written from, and what is written.
use Rattle.std.specs.Prelude.{◌≡◌, ℕ, ◌<◌, Bool, IsTrue, List, [], length, slice_index_or, take}
use Rattle.std.specs.List.{list_any}
use Rattle.ltl_spec.specs.Collections.Sets.{has}
use Rattle.ltl_spec.specs.Formulas.Tokens.{same_name}
use Rattle.ltl_spec.specs.Semantics.Word.{Name, Lasso, letter_at, name_cmp}
use Rattle.ltl_streams.specs.Streams.{SinkState, Breaks}
use Rattle.ltl_syntax.specs.FormulaView.{FormulaView}
use Rattle.ltl_word.specs.LassoView.{size}
use Rattle.ltl_word.specs.Rows.{IsRow}
use Rattle.ltl_pictures.specs.Timeline.{IsTruth, name_at, subformula_text, timeline}
use Rattle.ltl_pictures.specs.declared.fault.TimelineFault.{TimelineFault}
use Rattle.ltl_pictures.specs.declared.fault.TimelineFault.TheVariants.{CannotWrite, OutOfMemory}

-- a text that is P, with marks that are the truth
abbrev pub HasTrueMarks : FormulaView → Lasso → (List ℕ → Type 0) → Type 0
HasTrueMarks f w P = (truth : ℕ → ℕ → Bool) × IsTruth f w truth × P (timeline f w truth)

-- a beginning of such a text was taken and then a call failed, or memory was refused before any output
abbrev pub FailsToShow : SinkState → SinkState → ((List ℕ → Type 0) → Type 0) → TimelineFault → Type 0
FailsToShow old new IsText CannotWrite = IsText (Breaks old new)
FailsToShow old new IsText OutOfMemory = new ≡ old

-- there is a row for each name, and it says where the proposition is true
abbrev pub AreNameRows : Lasso → List Name → List (List ℕ) → Type 0
AreNameRows w names rows =
    (length rows ≡ length names)
    × ((p : ℕ) → p < length names → IsRow (size w) (λ i. IsTrue (has name_cmp (name_at names p) (letter_at w i))) (slice_index_or rows p []))

-- the texts are those of the first subformulas
abbrev pub AreTexts : FormulaView → List (List ℕ) → Type 0
AreTexts f texts = (k : ℕ) → k < length texts → slice_index_or texts k [] ≡ subformula_text f k

-- whether text k is that of an earlier place, too
abbrev pub is_repeated : List (List ℕ) → ℕ → Bool
is_repeated texts k = list_any (same_name (slice_index_or texts k [])) (take k texts)
