-- What the texts and the inputs of a program read as within its limits.
use Rattle.std.specs.Prelude.{◌≡◌, ℕ, ◌≤◌, ◌⊎◌, List, length}
use Rattle.ltl_spec.specs.Semantics.Word.{Name, Lasso}
use Rattle.ltl_spec.specs.Formulas.Formula.{Reading}
use Rattle.ltl_spec.specs.Formulas.Grammar.{IsTextOf}
use Rattle.ltl_spec.specs.Words.LassoText.{IsLassoText, HasTooManyNames}
use Rattle.ltl_spec.specs.Hoa.HoaReading.{AcceptanceForm, MarkedAutomaton, HoaReadsWithin}
use Rattle.ltl_spec.specs.Tools.Limits.{Limits}
use Rattle.ltl_spec.specs.Tools.Outcome.{Input, Text, Ended}

-- the input is this text, or was read to its end and has these bytes
abbrev pub IsWholeInput : Input → List ℕ → Type 0
IsWholeInput input text = (input ≡ Text text) ⊎ (input ≡ Ended text)

module _ (l : Limits) where
  -- the text reads as the formula
  abbrev pub IsFormulaText : List ℕ → Reading → Type 0
  IsFormulaText text R = (length text ≤ l.formula_bytes) × IsTextOf text R × (length R.names ≤ l.propositions)

  -- the whole input does
  abbrev pub IsFormulaIn : Input → Reading → Type 0
  IsFormulaIn input R = (text : List ℕ) × IsWholeInput input text × IsFormulaText text R

  -- the text reads as the word, whose names are not too many with these
  abbrev pub IsWordText : List Name → List ℕ → Lasso → Type 0
  IsWordText names text w = (length text ≤ l.word_bytes) × IsLassoText text w × ¬ (HasTooManyNames l.propositions names w)

  -- the whole input reads as the automaton
  abbrev pub IsAutomatonIn : AcceptanceForm → Input → MarkedAutomaton → Type 0
  IsAutomatonIn form input A = (text : List ℕ) × IsWholeInput input text × HoaReadsWithin l form text A
