-- What the search for a shorter lasso returns.
use Rattle.std.specs.Prelude.{◌≡◌, ℕ, ◌+◌, ◌<◌, ◌≤◌, List, length, true, ⊤}
use Rattle.ltl_check.specs.declared.walk.Taken.{Taken}
use Rattle.ltl_check.specs.declared.walk.Walk.{Walk}
use Rattle.ltl_check.specs.declared.breadth.Task.{Task}
use Rattle.ltl_check.specs.declared.shortest.Shorter.{Shorter}
use Rattle.ltl_check.specs.declared.shortest.Shorter.TheVariants.{Found, Nothing, Spent}
use Rattle.ltl_check.specs.Nets.{Net}
use Rattle.ltl_check.specs.Levels.{IsFullWalk}
use Rattle.ltl_check.specs.Explored.{IsGrown}
use Rattle.ltl_check.specs.Places.{is_base}
use Rattle.ltl_check.specs.Shortest.{IsShortestLasso}

-- so many edges are the fewest of a lasso that begins its cycle in a base
abbrev pub IsFewest : Net → Task → ℕ → Type 0
IsFewest N task n = (us vs : List Taken) (h : IsFullWalk N task.sets us vs) → is_base task.bases h.end ≡ true → n ≤ length us + length vs

abbrev pub edges_of : {A : Type 0} → Walk A → ℕ
edges_of w = length w.stem.items + length w.cycle.items

-- a shorter one with the fewest edges; or there is none
abbrev pub IsShorter : {A : Type 0} → Net → Task → ℕ → Shorter A → Type 0
IsShorter N task limit (Found w) = IsFullWalk N task.sets w.stem.items w.cycle.items × (edges_of w < limit) × IsFewest N task (edges_of w)
IsShorter N task limit Nothing = IsFewest N task limit
IsShorter N task limit Spent = ⊤

-- so many looks were made, and all that are allowed if the search had to end
abbrev pub HasSearched : ℕ → ℕ → ℕ → Type 0 → Type 0
HasSearched old new most Ended = (c : ℕ) × IsGrown old new c × (c ≤ most) × (Ended → c ≡ most)

-- no full walk whose cycle begins where that of `before` does has fewer edges
abbrev pub IsShortestThere : {A : Type 0} → Net → ℕ → Walk A → Walk A → Type 0
IsShortestThere N sets before after =
    (k : IsFullWalk N sets before.stem.items before.cycle.items) (us vs : List Taken) (h : IsFullWalk N sets us vs) → h.end ≡ k.end → edges_of after ≤ length us + length vs

-- A lasso that isn't longer than the one before. It is a shortest one if fewer looks were made than the first search may make. If fewer were made than both
-- searches may make, it is a shortest one of those whose cycle begins in the same state
abbrev pub IsShortened : {A : Type 0} → Net → ℕ → Walk A → Walk A → ℕ → ℕ → ℕ → ℕ → Type 0
IsShortened N sets before after most more old new =
    IsFullWalk N sets after.stem.items after.cycle.items × (edges_of after ≤ edges_of before)
    × ((c : ℕ) × IsGrown old new c × (c < most → IsShortestLasso N sets after.stem.items after.cycle.items) × (c < most + more → IsShortestThere N sets before after))

-- A lasso that isn't longer than the one before, after at most so many looks. If they are fewer, none whose cycle begins in the same state has fewer edges
abbrev pub IsShortenedThere : {A : Type 0} → Net → ℕ → Walk A → Walk A → ℕ → ℕ → ℕ → Type 0
IsShortenedThere N sets before after most old new =
    IsFullWalk N sets after.stem.items after.cycle.items × (edges_of after ≤ edges_of before) × ((c : ℕ) × IsGrown old new c × (c ≤ most) × (c < most → IsShortestThere N sets before after))
