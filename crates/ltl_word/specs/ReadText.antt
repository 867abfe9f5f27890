-- The answer to the text of a word: the word, or why it is refused.
use Rattle.std.specs.Prelude.{ℕ, ◌<◌, ◌≤◌, IsTrue, List, ◌++◌, length}
use Rattle.std.specs.List.{list_all}
use Rattle.ltl_spec.specs.Semantics.Word.{Name, Lasso}
use Rattle.ltl_spec.specs.Formulas.Names.{is_proposition}
use Rattle.ltl_spec.specs.Words.LassoText.{IsLassoText, IsBadWord, HasTooManyNames, with_sets}
use Rattle.ltl_spec.specs.Tools.Limits.{stated_limits}
use Rattle.ltl_word.specs.declared.fault.WordFault.{WordFault}
use Rattle.ltl_word.specs.declared.fault.WordFault.TheVariants.{TooLong, BadWord, TooManyPropositions, OutOfMemory}
use Rattle.ltl_word.specs.WrittenView.{WrittenView, letters_of}

-- the letters hold propositions alone, and the cycle isn't empty
pub record IsSpelled (w : Lasso) : Type 0 where
  pub propositions : IsTrue (list_all (λ a. list_all is_proposition a) (w.stem ++ w.cycle))
  pub cycles : 0 < length w.cycle

-- the text reads as the word that is written so
abbrev pub IsWritten : List ℕ → WrittenView → Type 0
IsWritten text v = IsLassoText text (with_sets (letters_of v)) × IsSpelled (letters_of v)

abbrev pub RefusesLetters : List ℕ → WordFault → Type 0
RefusesLetters text (BadWord place) = IsBadWord text place
RefusesLetters text OutOfMemory = Unit {0}
RefusesLetters text _ = ⊥

-- the text is within the limits and reads as the word, which is looked at with a formula of these names
abbrev pub IsReadAs : List Name → List ℕ → Lasso → Type 0
IsReadAs names text w = (length text ≤ stated_limits.word_bytes) × IsLassoText text w × (¬ (HasTooManyNames stated_limits.propositions names w))

-- the text is refused: its length first, then its fault, then the number of its names and the formula's
abbrev pub IsRefusedFor : List Name → List ℕ → WordFault → Type 0
IsRefusedFor names text TooLong = stated_limits.word_bytes < length text
IsRefusedFor names text (BadWord place) = (length text ≤ stated_limits.word_bytes) × IsBadWord text place
IsRefusedFor names text TooManyPropositions = (length text ≤ stated_limits.word_bytes) × ((w : Lasso) × IsLassoText text w × HasTooManyNames stated_limits.propositions names w)
IsRefusedFor names text OutOfMemory = length text ≤ stated_limits.word_bytes
