-- Numbers of labels that are replaced by the places of the labels.
use Rattle.std.proofs.Common.{◌≡◌, ℕ, zero, suc, ◌+◌, ◌<◌, ◌≤◌, List, [], ◌∷◌, length, map, refl, sym, ◌∙◌, ap, subst, arith}
use Rattle.std.specs.Prelude.{slice_index_or, slice_set, All}
use Rattle.std.proofs.lemmas.List.Elements.{All-from_get_or, All-get_or, All-map, All-weaker}
use Rattle.std.proofs.lemmas.List.{map-set}
use Rattle.std.proofs.Math.ListN.{get_or-map}
use Rattle.ltl_spec.specs.Automata.Automaton.{Automaton, Edge, State}
use Rattle.ltl_spec.proofs.Collections.FoundLaws.{index_there, map_equal, map_same}
use Rattle.ltl_spec.proofs.Collections.ListLaws.{All-at_has}
use Rattle.ltl_spec.proofs.Collections.MemberLaws.{Has-map, map_length}
use Rattle.ltl_automaton.specs.CodedEdges.{table_of}
use Rattle.ltl_automaton.specs.Labels.{Tables, AreCoded, IsCoded, labelled, labelled_edge, labelled_state, number_of_cube}
use Rattle.ltl_automaton.specs.LabelTables.{HasRanks, HaveRanks, ranked_edge}
use Rattle.ltl_automaton.specs.SharedView.{Shared, IsShared, automaton_of, state_in}
use Rattle.ltl_automaton.specs.declared.ranks.Ranks as ranking
use Rattle.ltl_automaton.proofs.TableLaws.{rank_there, ranks_within}

-- ---- one element after the other
-- the list with the first n elements replaced
pub replaced : {X : Type 0} → (X → X) → ℕ → List X → List X
replaced f zero xs = xs
replaced f (suc n) [] = []
replaced f (suc n) (x ∷ xs) = f x ∷ replaced f n xs

module _ {X : Type 0} (f : X → X) where
  pub replaced_all : (n : ℕ) (xs : List X) → length xs ≤ n → replaced f n xs ≡ map f xs
  unfolding replaced
  replaced_all zero [] l = refl
  replaced_all zero (x ∷ xs) l = absurd (omega (arith, l))
  replaced_all (suc n) [] l = refl
  replaced_all (suc n) (x ∷ xs) l = ap (λ ys. f x ∷ ys) (replaced_all n xs (omega (arith, l)))

  -- the next one is still there
  pub replaced_at : (n : ℕ) (xs : List X) (d : X) → slice_index_or (replaced f n xs) n d ≡ slice_index_or xs n d
  unfolding replaced
  replaced_at zero xs d = refl
  replaced_at (suc n) [] d = refl
  replaced_at (suc n) (x ∷ xs) d = replaced_at n xs d

  -- and is replaced
  replaced_suc : (n : ℕ) (xs : List X) (d : X) → n < length xs → slice_set (replaced f n xs) n (f (slice_index_or xs n d)) ≡ replaced f (suc n) xs
  unfolding replaced
  replaced_suc zero [] d l = absurd (omega (arith, l))
  replaced_suc zero (x ∷ xs) d l = refl
  replaced_suc (suc n) [] d l = absurd (omega (arith, l))
  replaced_suc (suc n) (x ∷ xs) d l = ap (λ ys. f x ∷ ys) (replaced_suc n xs d (omega (arith, l)))

  pub replaced_next : (n : ℕ) (xs now : List X) (d y : X) → now ≡ replaced f n xs → n < length xs → y ≡ f (slice_index_or now n d) → slice_set now n y ≡ replaced f (n + 1) xs
  replaced_next n xs now d y e l q =
      let same : slice_index_or now n d ≡ slice_index_or xs n d = ap (λ ys. slice_index_or ys n d) e ∙ replaced_at n xs d in
      let next : suc n ≡ n + 1 = omega arith in
      (λ i. slice_set (e i) n ((q ∙ ap f same) i)) ∙ replaced_suc n xs d l ∙ ap (λ m. replaced f m xs) next

  pub replaced_none : (xs : List X) → xs ≡ replaced f 0 xs
  unfolding replaced
  replaced_none xs = refl

  -- what holds of all elements holds of the next one
  pub still_there : (P : X → Type 0) (n : ℕ) (xs now : List X) (d : X) → now ≡ replaced f n xs → n < length xs → All P xs → P (slice_index_or now n d)
  still_there P n xs now d e l a = subst P (sym (ap (λ ys. slice_index_or ys n d) e ∙ replaced_at n xs d)) (All-get_or P xs n d l a)

  pub replaced_done : (n : ℕ) (xs now : List X) → now ≡ replaced f n xs → length xs ≤ n → now ≡ map f xs
  replaced_done n xs now e l = e ∙ replaced_all n xs l

-- the same where elements are seen as others
module _ {X Y : Type 0} (view : X → Y) (f : Y → Y) (n : ℕ) (xs now : List X) (e : map view now ≡ replaced f n (map view xs)) where
  pub seen_there : (P : Y → Type 0) (d : X) → n < length xs → All P (map view xs) → P (view (slice_index_or now n d))
  seen_there P d l a = subst P (get_or-map view now n d) (still_there f P n (map view xs) (map view now) (view d) e (subst (λ m. n < m) (sym (map_length view xs)) l) a)

  pub seen_next : (d y : X) → n < length xs → view y ≡ f (view (slice_index_or now n d)) → map view (slice_set now n y) ≡ replaced f (n + 1) (map view xs)
  seen_next d y l q = map-set view now n y ∙ replaced_next f n (map view xs) (map view now) (view d) (view y) e (subst (λ m. n < m) (sym (map_length view xs)) l) (q ∙ ap f (sym (get_or-map view now n d)))

  pub seen_done : length xs ≤ n → map view now ≡ map f (map view xs)
  seen_done l = replaced_done f n (map view xs) (map view now) e (subst (λ m. m ≤ n) (sym (map_length view xs)) l)

-- ---- edges, lists and states
module _ {A : Type 0} (t : Tables) (r : ranking.Ranks A) (w : HaveRanks t r) where
  abbrev u : Tables
  u = table_of r.table

  -- the numbers of a coded edge
  numbers : (e : Edge) → IsCoded t e → (number_of_cube e.cube < length t.cubes) × (slice_index_or e.marks 0 0 < length t.marks)
  numbers e c = (
    subst (λ n. n < length t.cubes) (sym (ap (λ (g : Edge). number_of_cube g.cube) c.is)) c.cube_within,
    subst (λ n. n < length t.marks) (sym (ap (λ (g : Edge). slice_index_or g.marks 0 0) c.is)) c.marks_within,
  )

  has_ranks : (e : Edge) → IsCoded t e → HasRanks r e
  has_ranks e c =
      let n = numbers e c in
      record { cube = ranks_within t.cubes u.cubes r.cubes.items _ w.cubes n.0; marks = ranks_within t.marks u.marks r.marks.items _ w.marks n.1 }

  -- where the cube and the marks stand
  cube_there : (e : Edge) → IsCoded t e → (slice_index_or r.cubes.items (number_of_cube e.cube) 0 < length u.cubes) × (slice_index_or u.cubes (slice_index_or r.cubes.items (number_of_cube e.cube) 0) [] ≡ slice_index_or t.cubes (number_of_cube e.cube) [])
  cube_there e c = index_there u.cubes _ _ [] (rank_there t.cubes u.cubes r.cubes.items (number_of_cube e.cube) _ 0 [] w.cubes (numbers e c).0 refl)

  marks_there : (e : Edge) → IsCoded t e → (slice_index_or r.marks.items (slice_index_or e.marks 0 0) 0 < length u.marks) × (slice_index_or u.marks (slice_index_or r.marks.items (slice_index_or e.marks 0 0) 0) [] ≡ slice_index_or t.marks (slice_index_or e.marks 0 0) [])
  marks_there e c = index_there u.marks _ _ [] (rank_there t.marks u.marks r.marks.items (slice_index_or e.marks 0 0) _ 0 [] w.marks (numbers e c).1 refl)

  -- the edge keeps its labels
  edge_keeps : (e : Edge) → IsCoded t e → labelled_edge u (ranked_edge r e) ≡ labelled_edge t e
  edge_keeps e c = λ i. let f : Edge = record { cube = (cube_there e c).1 i; target = e.target; marks = (marks_there e c).1 i } in f

  edge_coded : (e : Edge) → IsCoded t e → IsCoded u (ranked_edge r e)
  edge_coded e c = record {
    cube = slice_index_or r.cubes.items (number_of_cube e.cube) 0;
    marks = slice_index_or r.marks.items (slice_index_or e.marks 0 0) 0;
    is = refl;
    cube_within = (cube_there e c).0;
    marks_within = (marks_there e c).0;
  }

  -- each list is that of a state, so its edges are coded
  pub lists_have_ranks : (s : Shared) → IsShared s.lists s.states → AreCoded t (automaton_of s) → All (All (HasRanks r)) s.lists
  lists_have_ranks s h a = All-weaker (All (IsCoded t)) (All (HasRanks r)) (All-weaker (IsCoded t) (HasRanks r) has_ranks) s.lists (All-from_get_or (All (IsCoded t)) s.lists [] one)
    where
      one : (k : ℕ) → k < length s.lists → All (IsCoded t) (slice_index_or s.lists k [])
      one k l =
          let p = h.used k l in
          subst (λ n. All (IsCoded t) (slice_index_or s.lists n [])) p.2 (All-at_has (λ (q : State). All (IsCoded t) q.edges) (automaton_of s).states a (state_in s.lists p.0) (Has-map (state_in s.lists) s.states p.0 p.1))

  -- the automaton with the places
  abbrev ranked_state : State → State
  ranked_state q = record { accepting = q.accepting; edges = map (ranked_edge r) q.edges }

  module _ (s n : Shared) (e : n ≡ record { sets = s.sets; lists = map (map (ranked_edge r)) s.lists; states = s.states }) (a : AreCoded t (automaton_of s)) where
    states_now : (automaton_of n).states ≡ map ranked_state (automaton_of s).states
    states_now =
        ap (λ (m : Shared). (automaton_of m).states) e
        ∙ map_equal (state_in (map (map (ranked_edge r)) s.lists)) (λ p. ranked_state (state_in s.lists p)) s.states
        (λ p h i. let q : State = record { accepting = p.accepting; edges = get_or-map (map (ranked_edge r)) s.lists p.list [] i } in q)
        ∙ sym (map_same (state_in s.lists) ranked_state s.states)

    state_keeps : (q : State) → All (IsCoded t) q.edges → labelled_state u (ranked_state q) ≡ labelled_state t q
    state_keeps q c =
        let edges = map_same (ranked_edge r) (labelled_edge u) q.edges ∙ map_equal (λ f. labelled_edge u (ranked_edge r f)) (labelled_edge t) q.edges (λ f h. edge_keeps f (All-at_has (IsCoded t) q.edges c f h)) in
        λ i. let p : State = record { accepting = q.accepting; edges = edges i } in p

    pub relabelled : labelled u (automaton_of n) ≡ labelled t (automaton_of s)
    relabelled =
        let states : map (labelled_state u) (automaton_of n).states ≡ map (labelled_state t) (automaton_of s).states =
        ap (map (labelled_state u)) states_now
        ∙ map_same ranked_state (labelled_state u) (automaton_of s).states
        ∙ map_equal (λ q. labelled_state u (ranked_state q)) (labelled_state t) (automaton_of s).states (λ q h. state_keeps q (All-at_has (λ (p : State). All (IsCoded t) p.edges) (automaton_of s).states a q h)) in
        λ i. let B : Automaton = record { sets = ap (λ (m : Shared). m.sets) e i; states = states i } in B

    pub recoded : AreCoded u (automaton_of n)
    recoded =
        subst (All (λ (q : State). All (IsCoded u) q.edges)) (sym states_now) (All-map (λ (q : State). All (IsCoded u) q.edges) ranked_state (automaton_of s).states
        (All-weaker (λ (q : State). All (IsCoded t) q.edges) (λ (q : State). All (IsCoded u) (map (ranked_edge r) q.edges))
        (λ q c. All-map (IsCoded u) (ranked_edge r) q.edges (All-weaker (IsCoded t) (λ f. IsCoded u (ranked_edge r f)) edge_coded q.edges c)) (automaton_of s).states a))
