-- Steps towards the transitions of a set of rows.
use Rattle.std.specs.Prelude.{ℕ, ◌+◌, ◌≤◌, Bool, not, ◌&&◌, nat_lt, List, length}
use Rattle.std.specs.List.{list_any}
use Rattle.std.specs.Ordering.{is_ne}
use Rattle.ltl_spec.specs.Collections.Sets.{Has}
use Rattle.ltl_spec.specs.Transitions.RowTransitions.{Table, table_of, Transition, HasSets, implies, transition_cmp}
use Rattle.ltl_formula.specs.TableView.{TableView, core_of}

-- the elementary rows and the until rows of a table's formula
abbrev pub table_at : TableView → Table
table_at t = table_of (core_of t)

-- the literals and the targets of each are sets
abbrev pub AllSets : List Transition → Type 0
AllSets ts = (t : Transition) → Has ts t → HasSets t

-- the number of a transition's literals and targets
abbrev pub weight : Transition → ℕ
weight t = length t.cube + length t.targets

-- no transition has a greater weight
abbrev pub AreUpTo : ℕ → List Transition → Type 0
AreUpTo most ts = (t : Transition) → Has ts t → weight t ≤ most

-- the transition's weight is at least this
abbrev pub is_heavy : ℕ → Transition → Bool
is_heavy most t = not (nat_lt (weight t) most)

-- another one of these implies t
abbrev pub is_implied : List Transition → Transition → Bool
is_implied us t = list_any (λ u. is_ne (transition_cmp u t) && implies u t) us
