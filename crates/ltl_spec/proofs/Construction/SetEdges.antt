-- In the automata that are merged, the literals of each edge are a set, and so are its marks.
use Rattle.std.proofs.Common.{◌≡◌, ℕ, ◌+◌, ◌*◌, Bool, true, false, cond, inl, inr, List, [], ◌∷◌, ◌++◌, length, map, sym, ap, subst, Option, Some, None}
use Rattle.std.specs.Prelude.{filter_map, option_map, fold, slice_index_or, not, ◌&&◌}
use Rattle.std.specs.Ordering.{nat_cmp, is_ne}
use Rattle.std.specs.List.{list_any}
use Rattle.ltl_spec.specs.Collections.Sets.{Has, IsRising, union}
use Rattle.ltl_spec.specs.Transitions.Cubes.{Cube, literal_cmp, is_contradictory}
use Rattle.ltl_spec.specs.NormalForms.Normal.{Normal, Top, Bottom, Leaf, Next, And, Or, Until, Release}
use Rattle.ltl_spec.specs.Transitions.Pairs.{RowSet, Pair, join_pair, join, empty_pair, later_pair, conj, pairs}
use Rattle.ltl_spec.specs.Transitions.RowTransitions.{Table, table_of, place, pairs_at, successors, is_marked, with_marks, Transition, transition_cmp, implies, transitions}
use Rattle.ltl_spec.specs.Automata.Automaton.{Automaton, state_at}
use Rattle.ltl_spec.specs.Automata.Generalized.{same_row_set, row_net, root_set, IsGeneralized}
use Rattle.ltl_spec.specs.Construction.Levels.{LevelState, LevelEdge, same_level_state, start_copy, level_edge, level_edges, level_net, level_automaton}
use Rattle.ltl_spec.proofs.Collections.SetLaws.{append_cases, IsRising-union, set_of_cases, filter_cases}
use Rattle.ltl_spec.proofs.Collections.ListLaws.{IsRising-places}
use Rattle.ltl_spec.proofs.Collections.Orders.{literal_linear, pair_linear, level_edge_linear}
use Rattle.ltl_spec.proofs.Construction.ImpliedEdges.{IsSetEdge}
use Rattle.ltl_spec.proofs.Construction.QuotientRuns.{HasSetEdges}
use Rattle.ltl_spec.proofs.Construction.EdgeBounds.{moves_all}
use Rattle.ltl_spec.proofs.Collections.MemberLaws.{map_cases, flat_map_cases, filter_map_cases}

-- what a join has

-- the literals of each pair are a set
abbrev pub HasSetCubes : List Pair → Type 0
HasSetCubes ps = (p : Pair) → Has ps p → IsRising literal_cmp p.cube

abbrev cube_of : Option Pair → Cube
cube_of None = []
cube_of (Some p) = p.cube

-- a joined pair has the literals of both
joined_cube : (p q r : Pair) → join_pair p q ≡ Some r → union literal_cmp p.cube q.cube ≡ r.cube
joined_cube p q r e = at (is_contradictory (union literal_cmp p.cube q.cube)) e
  where
    at : (t : Bool) → option_map (λ (c : Cube). record { cube = c; targets = union nat_cmp p.targets q.targets }) (cond t None (Some (union literal_cmp p.cube q.cube))) ≡ Some r → union literal_cmp p.cube q.cube ≡ r.cube
    at true d = cc
    at false d = ap cube_of d

one_cube : (p : Pair) → IsRising literal_cmp p.cube → HasSetCubes (p ∷ [])
one_cube p s r (inl e) = subst (λ (x : Pair). IsRising literal_cmp x.cube) (sym e) s
one_cube p s r (inr h) = absurd h

append_cubes : (ps qs : List Pair) → HasSetCubes ps → HasSetCubes qs → HasSetCubes (ps ++ qs)
append_cubes ps qs a b r h = elim (append_cases ps qs r h) [ inl k ↦ a r k | inr k ↦ b r k ]

join_cubes_sets : (ps qs : List Pair) → HasSetCubes qs → HasSetCubes (join ps qs)
join_cubes_sets ps qs s r h =
    let (p, k, m) = flat_map_cases (λ x. filter_map (join_pair x) qs) ps r h in
    let (q, n, e) = filter_map_cases (join_pair p) qs r m in
    subst (λ c. IsRising literal_cmp c) (joined_cube p q r e) (IsRising-union literal_linear p.cube q.cube (s q n))

-- so it is for the pairs of a formula
pub pairs_sets : (place : Normal → ℕ) (F : Normal) → HasSetCubes (pairs place F)
pairs_sets place Top = one_cube empty_pair tt
pairs_sets place Bottom = λ r h. absurd h
pairs_sets place (Leaf l) = one_cube (record { cube = l ∷ []; targets = [] }) (tt, tt)
pairs_sets place (Next a) = λ r h. let (e, k, d) = map_cases (λ (x : RowSet). record { cube = []; targets = x }) (conj place a) r h in subst (λ (x : Pair). IsRising literal_cmp x.cube) (sym d) tt
pairs_sets place (And a b) = join_cubes_sets (pairs place a) (pairs place b) (pairs_sets place b)
pairs_sets place (Or a b) = append_cubes (pairs place a) (pairs place b) (pairs_sets place a) (pairs_sets place b)
pairs_sets place (Until a b) =
    append_cubes (pairs place b) (join (pairs place a) (later_pair (place (Until a b)) ∷ [])) (pairs_sets place b)
    (join_cubes_sets (pairs place a) (later_pair (place (Until a b)) ∷ []) (one_cube (later_pair (place (Until a b))) tt))
pairs_sets place (Release a b) =
    join_cubes_sets (pairs place b) (pairs place a ++ later_pair (place (Release a b)) ∷ [])
    (append_cubes (pairs place a) (later_pair (place (Release a b)) ∷ []) (pairs_sets place a) (one_cube (later_pair (place (Release a b))) tt))

-- the generalized automaton

-- the literals of the transition are a set, and its marks too
pub record IsSetTransition (u : Transition) : Type 0 where
  pub cube : IsRising literal_cmp u.cube
  pub marks : IsRising nat_cmp u.marks

module _ (t : Table) where
  folded_sets : (e : RowSet) (ps : List Pair) → HasSetCubes ps → HasSetCubes (fold (λ qs i. join qs (pairs_at t i)) ps e)
  folded_sets [] ps s = s
  folded_sets (i ∷ e) ps s = folded_sets e (join ps (pairs_at t i)) (join_cubes_sets ps (pairs_at t i) (pairs_sets (place t) (slice_index_or t.elementary i Bottom)))

  -- so it is for the successors of a set of rows
  pub successors_sets : (e : RowSet) → HasSetCubes (successors t e)
  successors_sets e p h =
      folded_sets e (empty_pair ∷ []) (one_cube empty_pair tt) p
      (set_of_cases pair_linear (fold (λ qs i. join qs (pairs_at t i)) (empty_pair ∷ []) e) p h)

  -- and for its transitions
  all_transitions_sets : (e : RowSet) (u : Transition) → Has (map (with_marks t) (successors t e)) u → IsSetTransition u
  all_transitions_sets e u h =
      let (p, k, d) = map_cases (with_marks t) (successors t e) u h in
      subst IsSetTransition (sym d) (record { cube = successors_sets e p k; marks = IsRising-places (is_marked t p) 0 t.untils })

  pub transitions_sets : (keep_implied : Bool) (e : RowSet) (u : Transition) → Has (transitions t keep_implied e) u → IsSetTransition u
  transitions_sets true e u h = all_transitions_sets e u h
  transitions_sets false e u h =
      all_transitions_sets e u (filter_cases (λ v. not (list_any (λ w. is_ne (transition_cmp w v) && implies w v) (map (with_marks t) (successors t e)))) (map (with_marks t) (successors t e)) u h).0

module _ (core : Normal) (keep_implied : Bool) where
  -- and for the edges of the automaton of a formula
  pub generalized_sets : (A : Automaton) → IsGeneralized core keep_implied A → HasSetEdges A
  generalized_sets A (n, c, e) =
      subst HasSetEdges (sym e) (moves_all IsSetEdge same_row_set false (row_net core keep_implied)
      (λ s u h _. let p = transitions_sets (table_of core) keep_implied s u h in record { cube = p.cube; marks = p.marks }) (root_set core keep_implied) (length (table_of core).untils) n)

-- the automaton of the copies

module _ (A : Automaton) (sets : HasSetEdges A) where
  -- an edge of a copy has the literals of an edge of the automaton
  level_edge_cube : (c : LevelState) (e : LevelEdge) → Has (level_edges A c) e → IsRising literal_cmp e.cube
  level_edge_cube c e h =
      let (y, m, j) = map_cases (level_edge A c.level) (state_at A c.state).edges e (set_of_cases level_edge_linear (map (level_edge A c.level) (state_at A c.state).edges) e h) in
      subst (λ (f : LevelEdge). IsRising literal_cmp f.cube) (sym j) (sets c.state y m).cube

  -- and no marks, so it is for the edges of the copies
  pub levels_sets : HasSetEdges (level_automaton A)
  levels_sets = moves_all IsSetEdge same_level_state true (level_net A) (λ c e h _. record { cube = level_edge_cube c e h; marks = tt }) start_copy 0 (length A.states * (A.sets + 1))
