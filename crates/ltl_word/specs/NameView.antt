-- Sorted lists of names.
use Rattle.std.specs.Prelude.{◌≡◌, ◌<◌, ◌≤◌, ℕ, List, [], length, slice_index_or}
use Rattle.std.specs.Prelude.{flat_map}
use Rattle.std.specs.List.{AllByRecursion}
use Rattle.std.specs.Ordering.{nat_cmp}
use Rattle.ltl_word.specs.LassoView.{letter_of}
use Rattle.ltl_spec.specs.Collections.Sets.{Has, IsRising, set_of}
use Rattle.ltl_spec.specs.Words.LassoText.{names_in}
use Rattle.ltl_word.specs.ReadText.{IsSpelled}
use Rattle.ltl_spec.specs.Semantics.Word.{Name, Lasso, name_cmp}
use Rattle.ltl_spec.specs.Tools.Limits.{stated_limits}
use Rattle.ltl_word.specs.declared.fault.WordFault.{WordFault}
use Rattle.ltl_word.specs.declared.fault.WordFault.TheVariants.{TooManyPropositions, OutOfMemory}

-- there are too many names, or memory runs out
abbrev pub RefusesNames : ℕ → WordFault → Type 0
RefusesNames count TooManyPropositions = stated_limits.propositions < count
RefusesNames count OutOfMemory = Unit {0}
RefusesNames count _ = ⊥

-- the set of the names, which aren't too many
abbrev pub IsNameSet : List Name → List Name → Type 0
IsNameSet names set = (set ≡ set_of name_cmp names) × (length set ≤ stated_limits.propositions)

-- the names of letters
abbrev pub all_names : List (List Name) → List Name
all_names letters = flat_map (λ a. a) letters

-- the names of the letter stand at these places
pub record ArePlaces (names letter : List Name) (places : List ℕ) : Type 0 where
  pub spelled : letter_of names places ≡ letter
  pub set : IsRising nat_cmp places
  pub within : AllByRecursion (λ i. i < length names) places

-- the names of each letter stand at the places of its row
pub record AreAllPlaces (names : List Name) (letters : List (List Name)) (rows : List (List ℕ)) : Type 0 where
  pub count : length rows ≡ length letters
  pub each : (k : ℕ) → k < length rows → ArePlaces names (set_of name_cmp (slice_index_or letters k [])) (slice_index_or rows k [])

-- the names are a set and few, and those of the word are among them
pub record IsKnown (names : List Name) (w : Lasso) : Type 0 where
  pub sorted : IsRising name_cmp names
  pub few : length names ≤ stated_limits.propositions
  pub known : AllByRecursion (Has names) (names_in w)
  pub spelled : IsSpelled w
