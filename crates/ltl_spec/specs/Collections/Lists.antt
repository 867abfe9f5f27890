-- Lists of different things in the order in which they first come.
use Rattle.std.specs.Prelude.{ℕ, ◌+◌, Bool, if◌then◌else◌, List, [], ◌∷◌, ◌++◌, fold, ⊤}
use Rattle.std.specs.List.{list_any, position_or_len}
use Rattle.ltl_spec.specs.Collections.Sets.{Has}

-- no element stands twice
abbrev pub HasNoRepeats : {K : Type 0} → List K → Type 0
HasNoRepeats [] = ⊤
HasNoRepeats (x ∷ xs) = (¬ (Has xs x)) × HasNoRepeats xs

-- the list with x behind it, unless x is there
abbrev pub with_new : {K : Type 0} → (K → K → Bool) → List K → K → List K
with_new same xs x = if list_any (same x) xs then xs else xs ++ x ∷ []

-- the different elements, each where it first stands
abbrev pub first_occurrences : {K : Type 0} → (K → K → Bool) → List K → List K
first_occurrences same xs = fold (with_new same) [] xs

-- the place of x, or the length where x isn't there
abbrev pub place_of : {K : Type 0} → (K → K → Bool) → K → List K → ℕ
place_of same x xs = position_or_len (same x) xs

-- the places of the elements that pass, counted from n
abbrev pub places_from : {K : Type 0} → (K → Bool) → ℕ → List K → List ℕ
places_from p n [] = []
places_from p n (x ∷ xs) = if p x then n ∷ places_from p (n + 1) xs else places_from p (n + 1) xs

-- the places of the elements that pass
abbrev pub places_where : {K : Type 0} → (K → Bool) → List K → List ℕ
places_where p xs = places_from p 0 xs

-- the pieces in a row, with this between each two
abbrev pub joined_by : List ℕ → List (List ℕ) → List ℕ
joined_by between [] = []
joined_by between (x ∷ []) = x
joined_by between (x ∷ y ∷ xs) = x ++ between ++ joined_by between (y ∷ xs)
