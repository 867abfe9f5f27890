-- The invariants of the breadth-first search for a lasso. `ps` are the places that were met, `hs` how each was.
use Rattle.std.specs.Prelude.{◌≡◌, ℕ, ◌+◌, ◌-◌, ◌<◌, ◌≤◌, ◌^◌, List, [], ◌∷◌, ◌++◌, length, ◌⊎◌, Some, slice_get, true, false}
use Rattle.ltl_check.specs.declared.graph.Step.{Step}
use Rattle.ltl_check.specs.declared.walk.Taken.{Taken}
use Rattle.ltl_check.specs.declared.place.Place.{Place}
use Rattle.ltl_check.specs.declared.place.Arrival.{Arrival}
use Rattle.ltl_check.specs.declared.place.Bases.{Bases}
use Rattle.ltl_check.specs.declared.breadth.Task.{Task}
use Rattle.ltl_check.specs.declared.breadth.Breadth.{Breadth}
use Rattle.ltl_check.specs.Nets.{Net}
use Rattle.ltl_check.specs.Levels.{IsFullWalk}
use Rattle.ltl_check.specs.Explored.{IsGrown}
use Rattle.ltl_check.specs.Places.{IsGoal, LeadsAt, IsStepTo, Reaches, start_place, is_base, on_stem, begun}

-- the place is one of the first n
abbrev pub Listed : List Place → ℕ → Place → Type 0
Listed ps n p = (i : ℕ) × (i < n) × (slice_get ps i ≡ Some p)

-- the place is new at the end of the list, or it was there and nothing has changed
abbrev pub IsPut : List Place → List Arrival → Place → Arrival → List Place → List Arrival → Type 0
IsPut ps hs p a qs bs = ((qs ≡ ps) × (bs ≡ hs)) ⊎ ((qs ≡ ps ++ p ∷ []) × (bs ≡ hs ++ a ∷ []))

module _ (N : Net) (bases : Bases) where
  -- the place is the start, or was reached by a step from the place before, which is one edge nearer to the start
  abbrev pub IsArrived : List Place → List Arrival → Place → Arrival → Type 0
  IsArrived ps hs p a =
      ((a.depth ≡ 0) × (p ≡ start_place N))
      ⊎ ((q : Place) × ((b : Arrival) × (slice_get ps a.from ≡ Some q) × (slice_get hs a.from ≡ Some b) × (a.depth ≡ b.depth + 1) × IsStepTo N bases q a.taken p))

  -- the places are states of the graph, reached by at most so many edges
  pub record IsTree (ps : List Place) (hs : List Arrival) (deepest : ℕ) : Type 0 where
    pub sized : length hs ≡ length ps
    pub inside : (i : ℕ) (p : Place) → slice_get ps i ≡ Some p → p.state < N.count
    pub deep : (i : ℕ) (a : Arrival) → slice_get hs i ≡ Some a → a.depth ≤ deepest
    pub back : (i : ℕ) (a : Arrival) → slice_get hs i ≡ Some a → 0 < a.depth → a.from < i
    pub each : (i : ℕ) (p : Place) (a : Arrival) → slice_get ps i ≡ Some p → slice_get hs i ≡ Some a → IsArrived ps hs p a

  module _ (sets : ℕ) (ps : List Place) (hs : List Arrival) where
    -- The edges of the places before `at` lead to places that were met. All places that `depth` edges lead to stand before `end`. None is a goal
    pub record IsLayer (at end depth : ℕ) : Type 0 where
      pub tree : IsTree ps hs (depth + 1)
      pub early : (i : ℕ) (a : Arrival) → i < end → slice_get hs i ≡ Some a → a.depth ≤ depth
      pub some : end ≤ length ps
      pub before : at ≤ end
      pub complete : (p : Place) → Reaches N bases depth p → Listed ps end p
      pub closed : (i k : ℕ) (q p : Place) → i < at → slice_get ps i ≡ Some q → LeadsAt N bases q k p → Listed ps (length ps) p
      pub none : (i : ℕ) (p : Place) → slice_get ps i ≡ Some p → IsGoal sets p → ⊥

    -- so do the first k edges of the place `at`
    pub record IsExpanding (at end depth k : ℕ) : Type 0 where
      pub layer : IsLayer at end depth
      pub inside : at < end
      pub looked : (j : ℕ) (q p : Place) → j < k → slice_get ps at ≡ Some q → LeadsAt N bases q j p → Listed ps (length ps) p

    -- place i is a goal, and no goal is nearer
    pub record HasClosed (depth i : ℕ) : Type 0 where
      pub tree : IsTree ps hs (depth + 1)
      pub place : Place
      pub there : slice_get ps i ≡ Some place
      pub goal : IsGoal sets place
      pub least : (p : Place) → Reaches N bases depth p → IsGoal sets p → ⊥

-- ---- the same, of the values of the code
-- nothing but places and looks has changed
abbrev pub IsSameLayer : {A : Type 0} → Breadth A → Breadth A → Type 0
IsSameLayer old new = (new.at ≡ old.at) × (new.end ≡ old.end) × (new.depth ≡ old.depth)

abbrev pub HasPut : {A : Type 0} → Breadth A → Place → Arrival → Breadth A → Type 0
HasPut old p a new = IsPut old.places.keys old.arrivals.items p a new.places.keys new.arrivals.items × IsSameLayer old new × (new.left ≡ old.left)

-- Both places behind an edge that leaves state n on a stem: the first one was added, and the second one if a cycle may begin there
abbrev pub IsBranched : Bases → List Place → List Arrival → ℕ → Step ℕ → Arrival → List Place → List Arrival → Type 0
IsBranched bases ps hs n a arrival rs cs =
    (qs : List Place) × ((bs : List Arrival) × IsPut ps hs (on_stem a) arrival qs bs
    × (((is_base bases n ≡ true) × IsPut qs bs (begun n a) arrival rs cs) ⊎ ((is_base bases n ≡ false) × (rs ≡ qs) × (cs ≡ bs))))

abbrev pub HasBranched : {A : Type 0} → Bases → Breadth A → ℕ → Step ℕ → Arrival → Breadth A → Type 0
HasBranched bases old n a arrival new =
    IsBranched bases old.places.keys old.arrivals.items n a arrival new.places.keys new.arrivals.items × IsSameLayer old new × (new.left ≡ old.left)

-- the second one is a goal with this number
abbrev pub IsBegunAt : Task → List Place → ℕ → Step ℕ → ℕ → Type 0
IsBegunAt task ps n a i = (is_base task.bases n ≡ true) × (slice_get ps i ≡ Some (begun n a)) × IsGoal task.sets (begun n a)

abbrev pub AreListed : Bases → List Place → ℕ → Step ℕ → Type 0
AreListed bases ps n a = Listed ps (length ps) (on_stem a) × (is_base bases n ≡ true → Listed ps (length ps) (begun n a))

-- so many looks were taken from those that are left
abbrev pub IsPaid : ℕ → ℕ → ℕ → ℕ → Type 0
IsPaid old new before after = (after ≤ before) × IsGrown old new (before - after)

-- the numbers of states and edges are small
abbrev pub IsWithin : {A : Type 0} → Net → Breadth A → Type 0
IsWithin N b = (N.count < 2 ^ 63) × (b.depth + 1 < 2 ^ 64)

module _ (N : Net) (task : Task) where
  abbrev pub StandsOn : {A : Type 0} → Breadth A → Type 0
  StandsOn b = IsLayer N task.bases task.sets b.places.keys b.arrivals.items b.at b.end b.depth

  abbrev pub Expands : {A : Type 0} → Breadth A → ℕ → Type 0
  Expands b k = IsExpanding N task.bases task.sets b.places.keys b.arrivals.items b.at b.end b.depth k

  abbrev pub HasGoal : {A : Type 0} → Breadth A → ℕ → Type 0
  HasGoal b i = HasClosed N task.bases task.sets b.places.keys b.arrivals.items b.depth i

  -- the place `at` was looked at, too
  abbrev pub StandsPast : {A : Type 0} → Breadth A → Type 0
  StandsPast b = IsLayer N task.bases task.sets b.places.keys b.arrivals.items (b.at + 1) b.end b.depth

  -- a lasso with no more edges than places were passed
  abbrev pub IsLassoOf : {A : Type 0} → Breadth A → List Taken → List Taken → Type 0
  IsLassoOf b stem cycle = IsFullWalk N task.sets stem cycle × (length stem + length cycle ≤ b.depth + 1)
