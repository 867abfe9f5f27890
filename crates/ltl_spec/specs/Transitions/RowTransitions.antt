-- The transitions of a set of rows.
use Rattle.std.specs.Prelude.{ℕ, Bool, not, ◌&&◌, ◌||◌, if◌then◌else◌, List, [], ◌∷◌, map, filter, fold, slice_index_or}
use Rattle.std.specs.List.{list_any}
use Rattle.std.specs.declared.cmp.Ordering.{Ordering}
use Rattle.std.specs.Ordering.{nat_cmp, is_ne, on, then_cmp}
use Rattle.ltl_spec.specs.Collections.Sets.{set_of, has, is_subset, IsRising}
use Rattle.ltl_spec.specs.Collections.Lists.{place_of, places_where}
use Rattle.ltl_spec.specs.Transitions.Cubes.{Cube, cube_cmp, literal_cmp}
use Rattle.ltl_spec.specs.NormalForms.Normal.{Normal, Bottom, same}
use Rattle.ltl_spec.specs.NormalForms.NormalForm.{elementary_rows, until_rows}
use Rattle.ltl_spec.specs.Transitions.Pairs.{RowSet, row_set_cmp, Pair, pair_cmp, join, empty_pair, pairs}

-- a transition: its literals, its target and the places of the until rows whose acceptance set it is in
pub record Transition : Type 0 where
  pub cube : Cube
  pub targets : RowSet
  pub marks : List ℕ

-- the elementary rows and the until rows of a formula
pub record Table : Type 0 where
  pub elementary : List Normal
  pub untils : List Normal

abbrev pub table_of : Normal → Table
table_of F = record { elementary = elementary_rows F; untils = until_rows F }

module _ (t : Table) where
  -- the place of a row among the elementary ones
  abbrev pub place : Normal → ℕ
  place a = place_of same a t.elementary

  -- the pairs of the row at a place
  abbrev pub pairs_at : ℕ → List Pair
  pairs_at i = pairs place (slice_index_or t.elementary i Bottom)

  -- all rows of the set at once
  abbrev pub successors : RowSet → List Pair
  successors e = set_of pair_cmp (fold (λ ps i. join ps (pairs_at i)) (empty_pair ∷ []) e)

  -- the pair fulfils the until row, without that row as a target
  abbrev pub fulfils : Normal → Pair → Pair → Bool
  fulfils f p q = is_subset literal_cmp q.cube p.cube && not (has nat_cmp (place f) q.targets) && is_subset nat_cmp q.targets p.targets

  -- the transition doesn't put the until row off
  abbrev pub is_marked : Pair → Normal → Bool
  is_marked p f = not (has nat_cmp (place f) p.targets) || list_any (fulfils f p) (pairs place f)

  -- a pair as a transition: the acceptance sets of the until rows that it does not put off
  abbrev pub with_marks : Pair → Transition
  with_marks p = record { cube = p.cube; targets = p.targets; marks = places_where (is_marked p) t.untils }

-- u asks for no more than t, and is in each acceptance set that t is in
abbrev pub implies : Transition → Transition → Bool
implies u t = is_subset literal_cmp u.cube t.cube && is_subset nat_cmp u.targets t.targets && is_subset nat_cmp t.marks u.marks

-- by the literals, then by the targets, which decide the marks
abbrev pub transition_cmp : Transition → Transition → Ordering
transition_cmp = then_cmp (on (λ t. t.cube) cube_cmp) (on (λ t. t.targets) row_set_cmp)

-- without those that another one implies
abbrev pub unimplied_transitions : List Transition → List Transition
unimplied_transitions ts = filter (λ t. not (list_any (λ u. is_ne (transition_cmp u t) && implies u t) ts)) ts

-- the transitions of a set of rows, rising by literals and then by targets
abbrev pub transitions : Table → Bool → RowSet → List Transition
transitions t keep_implied e =
    let ts = map (with_marks t) (successors t e) in
    if keep_implied then ts else unimplied_transitions ts

-- the literals and the targets are sets
pub record HasSets (t : Transition) : Type 0 where
  pub cube : IsRising literal_cmp t.cube
  pub targets : IsRising nat_cmp t.targets
