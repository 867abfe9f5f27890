-- Words by their letters, which are sets of numbers of names; and what shrinking keeps of a word.
use Rattle.std.specs.Prelude.{ℕ, ◌<◌, ◌≤◌, List, [], ◌∷◌, length, take, drop, filter, not, All, slice_index_or}
use Rattle.std.specs.Ordering.{nat_cmp}
use Rattle.ltl_spec.specs.Collections.Sets.{Has, has}
use Rattle.ltl_spec.specs.Semantics.Word.{Name}
use Rattle.ltl_spec.specs.Automata.Automaton.{Automaton}
use Rattle.ltl_spec.specs.Hoa.HoaReading.{MarkedAutomaton}
use Rattle.ltl_spec.specs.Checking.Check as spec
use Rattle.ltl_word.specs.LassoView.{word_with}

-- each number in one of the letters is that of a name that is positive in one of the automata
abbrev pub AreNeeded : MarkedAutomaton → List Name → Automaton → List Name → List (List ℕ) → Type 0
AreNeeded A names B all letters = (b : List ℕ) (i : ℕ) → Has letters b → Has b i → spec.IsNeeded A names B (slice_index_or all i [])

-- the letter has no number that none of these has
abbrev pub IsOf : List (List ℕ) → List ℕ → Type 0
IsOf letters a = (i : ℕ) → Has a i → (b : List ℕ) × Has letters b × Has b i

-- the letter without the number
abbrev pub bare : ℕ → List ℕ → List ℕ
bare p letter = filter (λ i. not (has nat_cmp i (p ∷ []))) letter

-- no more letters than the old ones, and without other numbers
abbrev pub IsNoMore : List (List ℕ) → List (List ℕ) → Type 0
IsNoMore old letters = (length letters ≤ length old) × All (IsOf old) letters

-- both automata accept the word
abbrev pub IsShared : MarkedAutomaton → List Name → Automaton → List Name → List (List ℕ) → ℕ → Type 0
IsShared A names B all letters stem = (stem < length letters) × spec.IsCommon A names B (word_with all (take stem letters) (drop stem letters))

-- both automata accept the word, which has no more letters than the old one, and no other names
pub record IsShrunk (A : MarkedAutomaton) (names : List Name) (B : Automaton) (all : List Name) (old letters : List (List ℕ)) (stem : ℕ) : Type 0 where
  pub kept : IsNoMore old letters
  pub shared : IsShared A names B all letters stem
