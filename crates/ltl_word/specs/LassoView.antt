-- A word as the list of its letters, which are sets of positions in a list of names.
use Rattle.std.specs.Prelude.{ℕ, ◌<◌, ◌≤◌, ◌++◌, IsTrue, List, [], map, length, take, drop, slice_index_or}
use Rattle.std.specs.List.{AllByRecursion, list_all}
use Rattle.std.specs.Ordering.{nat_cmp}
use Rattle.ltl_spec.specs.Collections.Sets.{IsRising, set_of}
use Rattle.ltl_spec.specs.Formulas.Names.{is_proposition}
use Rattle.ltl_spec.specs.Semantics.Word.{Name, name_cmp, Letter, Lasso}
use Rattle.ltl_spec.specs.Tools.Limits.{stated_limits}

-- the names that stand at these places
abbrev pub letter_of : List Name → List ℕ → Letter
letter_of names places = map (λ i. slice_index_or names i []) places

-- the word of these letters, of which so many are the stem
abbrev pub lasso_of : List Name → List (List ℕ) → ℕ → Lasso
lasso_of names letters stem = record { stem = map (letter_of names) (take stem letters); cycle = map (letter_of names) (drop stem letters) }

-- the names are sorted, each once, and few; each letter is a set of their places where propositions stand; the cycle isn't empty
pub record IsMade (names : List Name) (letters : List (List ℕ)) (stem : ℕ) : Type 0 where
  pub sorted : IsRising name_cmp names
  pub few : length names ≤ stated_limits.propositions
  pub sets : AllByRecursion (IsRising nat_cmp) letters
  pub within : AllByRecursion (AllByRecursion (λ i. i < length names)) letters
  pub propositions : IsTrue (list_all (λ places. list_all is_proposition (letter_of names places)) letters)
  pub cycles : stem < length letters

-- how many letters are written
abbrev pub size : Lasso → ℕ
size w = length (w.stem ++ w.cycle)

-- the letter that holds the names with these numbers
abbrev pub letter_with : List Name → List ℕ → Letter
letter_with names numbers = set_of name_cmp (map (λ i. slice_index_or names i []) numbers)

-- the word of such letters
abbrev pub word_with : List Name → List (List ℕ) → List (List ℕ) → Lasso
word_with names stem cycle = record { stem = map (letter_with names) stem; cycle = map (letter_with names) cycle }
