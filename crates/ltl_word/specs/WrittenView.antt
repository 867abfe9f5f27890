-- The letters that were read so far, as a state of the definitions' reader.
use Rattle.std.specs.Prelude.{◌≡◌, ℕ, ◌+◌, ◌≤◌, Bool, List, slice_range, Option}
use Rattle.std.specs.Option.{option_map}
use Rattle.ltl_spec.specs.Semantics.Word.{Name, Lasso}
use Rattle.ltl_spec.specs.Words.LassoMachine as machine
use Rattle.ltl_word.specs.declared.place.WordPlace.{WordPlace}
use Rattle.ltl_word.specs.declared.place.WordPlace.TheVariants.{Letter, FirstName, Name as NamePlace, InName, AfterLetter, Blank, InWord}

-- whether the cycle has begun, the letters of the stem and of the cycle, and the names of an open letter
pub record WrittenView : Type 0 where
  pub in_cycle : Bool
  pub stem : List (List Name)
  pub cycle : List (List Name)
  pub letter : List Name

-- the place, where so many bytes of the text were read
abbrev pub place_of : List ℕ → ℕ → WordPlace → machine.WordPlace
place_of text at Letter = machine.AtLetter
place_of text at FirstName = machine.AtFirstName
place_of text at NamePlace = machine.AtName
place_of text at (InName start) = machine.InName (slice_range text start at)
place_of text at AfterLetter = machine.AfterLetter
place_of text at Blank = machine.AtBlank
place_of text at (InWord rest) = machine.InWord rest.now

-- the state of the reader
abbrev pub after : List ℕ → ℕ → WordPlace → WrittenView → machine.WordBefore
after text at place v = record { place = place_of text at place; in_cycle = v.in_cycle; stem = v.stem; cycle = v.cycle; letter = v.letter }

-- the byte leads from the place to the next one, if to any
abbrev pub NextIs : List ℕ → ℕ → ℕ → WordPlace → WrittenView → Option WordPlace → WrittenView → Type 0
NextIs text at byte place old next new = machine.word_step (place_of text at place) (after text at place old) byte ≡ option_map (λ p. after text (at + 1) p new) next

-- a name begins before the place
abbrev pub IsInside : ℕ → WordPlace → Type 0
IsInside at (InName start) = start ≤ at
IsInside at _ = Unit {0}

-- the letters as a word whose letters are lists
abbrev pub letters_of : WrittenView → Lasso
letters_of v = record { stem = v.stem; cycle = v.cycle }
