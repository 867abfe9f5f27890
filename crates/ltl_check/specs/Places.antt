-- Places on lassos, and how edges lead from one to the next. A lasso that meets all sets is a way of places from the start to a goal, with a place for each edge.
use Rattle.std.specs.Prelude.{◌≡◌, ℕ, zero, suc, ◌+◌, ◌<◌, Bool, true, ◌==◌, List, [], ◌⊎◌}
use Rattle.std.specs.Ordering.{nat_cmp}
use Rattle.ltl_spec.specs.Collections.Sets.{union}
use Rattle.ltl_check.specs.declared.graph.Step.{Step}
use Rattle.ltl_check.specs.declared.walk.Taken.{Taken}
use Rattle.ltl_check.specs.declared.place.Place.{Place}
use Rattle.ltl_check.specs.declared.place.Bases.{Bases}
use Rattle.ltl_check.specs.declared.place.Bases.TheVariants.{Every, One}
use Rattle.ltl_check.specs.Marks.{in_set}
use Rattle.ltl_check.specs.Nets.{Net, IsSuccessor}

-- whether a cycle may begin in the state
abbrev pub is_base : Bases → ℕ → Bool
is_base Every n = true
is_base (One b) n = b == n

-- the marks have every set
abbrev pub HoldsAll : ℕ → List ℕ → Type 0
HoldsAll sets marks = (j : ℕ) → j < sets → in_set marks j ≡ true

-- the cycle is back where it began, and has met every set
abbrev pub IsGoal : ℕ → Place → Type 0
IsGoal sets p = (p.base ≡ p.state + 1) × HoldsAll sets p.marks

-- one edge further: on the stem, as the first edge of a cycle from state n, on the cycle of place p
abbrev pub on_stem : Step ℕ → Place
on_stem a = record { base = 0; state = a.target; marks = [] }

abbrev pub begun : ℕ → Step ℕ → Place
begun n a = record { base = n + 1; state = a.target; marks = a.marks }

abbrev pub further : Place → Step ℕ → Place
further p a = record { base = p.base; state = a.target; marks = union nat_cmp p.marks a.marks }

-- the place to which the edge leads from p: a stem goes on, or a cycle begins, or a cycle goes on
abbrev pub IsNext : Bases → Place → Step ℕ → Place → Type 0
IsNext bases p a q =
    ((p.base ≡ 0) × ((q ≡ on_stem a) ⊎ ((is_base bases p.state ≡ true) × (q ≡ begun p.state a)))) ⊎ ((0 < p.base) × (q ≡ further p a))

module _ (N : Net) where
  abbrev pub start_place : Place
  start_place = record { base = 0; state = N.start; marks = [] }

  -- the k-th edge of p's state leads to q
  abbrev pub LeadsAt : Bases → Place → ℕ → Place → Type 0
  LeadsAt bases p k q = (a : Step ℕ) × IsSuccessor N p.state k a × IsNext bases p a q

  -- the step leads from p to q
  abbrev pub IsStepTo : Bases → Place → Taken → Place → Type 0
  IsStepTo bases p t q = (t.state ≡ p.state) × ((a : Step ℕ) × IsSuccessor N t.state t.pick a × (a.letter ≡ t.letter) × IsNext bases p a q)

  -- at most n edges lead to the place
  unfoldable pub Reaches : Bases → ℕ → Place → Type 0
  Reaches bases zero p = p ≡ start_place
  Reaches bases (suc n) p = Reaches bases n p ⊎ ((q : Place) × Reaches bases n q × ((k : ℕ) × LeadsAt bases q k p))
