-- What is listed of things whose labels are numbers is, with the labels, what is listed of the things with labels.
use Rattle.std.proofs.Common.{◌≡◌, ℕ, ◌+◌, ◌<◌, Bool, true, false, cond, List, [], ◌∷◌, length, map, refl, sym, ◌∙◌, ap, subst}
use Rattle.std.specs.Prelude.{sum_by, All}
use Rattle.std.specs.Ordering.{nat_cmp, ordering_then}
use Rattle.std.proofs.lemmas.List.Sums.{sum_by-cons}
use Rattle.ltl_spec.specs.Collections.Sets.{Has, set_of}
use Rattle.ltl_spec.specs.Transitions.Cubes.{cube_cmp}
use Rattle.ltl_spec.specs.Automata.Automaton.{Automaton, State, Edge, edge_cmp, state_at}
use Rattle.ltl_spec.specs.Automata.Listing.{listing, IsComplete, PassesLimits}
use Rattle.ltl_spec.specs.Automata.Net.{Net, targets_of, edge_in, state_in, IsReachable}
use Rattle.ltl_spec.specs.Construction.Levels.{LevelState, LevelEdge, same_level_state, start_copy, level_edge, level_edges, level_edge_cmp}
use Rattle.ltl_spec.proofs.Automata.NetLaws.{state_edges}
use Rattle.ltl_spec.proofs.Collections.FoundLaws.{map_same, map_equal, index_there}
use Rattle.ltl_spec.proofs.Collections.ListLaws.{All-at_has, All-from_has}
use Rattle.ltl_spec.proofs.Collections.MemberLaws.{map_cases, map_length}
use Rattle.ltl_spec.proofs.Collections.Orders.{cube_linear, level_edge_linear}
use Rattle.ltl_spec.proofs.Collections.SetLaws.{set_of_cases}
use Rattle.ltl_automaton.specs.Net.{Move, moves_of}
use Rattle.ltl_automaton.proofs.TableLaws.{state_at_labelled}
use Rattle.ltl_models.proofs.Within.{edges_within}
use Rattle.ltl_passes.specs.Degeneralize as levels
use Rattle.ltl_passes.specs.Degeneralize.{coded_level_edge, coded_successor, coded_level_net, level_net}
use Rattle.ltl_automaton.specs.Labels.{Tables, AreTables, coded_edge, cube_in, marks_in, labelled_edge, labelled_state, labelled, IsCoded, AreCoded}
use Rattle.ltl_passes.proofs.LabelLaws.{embedded_set, rising_cmp, coded_cube_cmp, labelled_set}

-- the move with the labels that stand in the tables
abbrev pub labelled_successor : {K : Type 0} → Tables → Move K → Move K
labelled_successor t m = record { cube = cube_in t m.cube; key = m.key; marks = marks_in t m.marks }

-- the moves of P are those of N, and have the labels where the edges of N have numbers
module _ (t : Tables) (a : AreTables t) {K M Q : Type 0} (same : K → K → Bool) (N : Net K M) (P : Net K Q) (g : M → Q)
    (moves : (k : K) → P.moves k ≡ map g (N.moves k)) (leads : (m : M) → P.target (g m) ≡ N.target m) (edges : (m : M) (n : ℕ) → P.edge (g m) n ≡ labelled_edge t (N.edge m n)) (accepts : (k : K) → P.accepts k ≡ N.accepts k)
    (coded : (k : K) (m : M) → Has (N.moves k) m → (n : ℕ) → IsCoded t (N.edge m n)) where
  labelled_targets : targets_of P ≡ targets_of N
  labelled_targets = λ i k. (ap (map P.target) (moves k) ∙ map_same g P.target (N.moves k) ∙ map_equal (λ m. P.target (g m)) N.target (N.moves k) (λ m _. leads m)) i

  -- the edge of a move to a number
  edge_labelled : (keys : List K) (m : M) → edge_in same P keys (g m) ≡ labelled_edge t (edge_in same N keys m)
  edge_labelled keys m = edges m _ ∙ ap (λ k. edge_to_key m k) (leads m)
    where
      edge_to_key : M → K → Edge
      edge_to_key m k = labelled_edge t (edge_in same (record N { target = λ _. k }) keys m)

  edges_labelled : (keys : List K) (k : K) → map (edge_in same P keys) (P.moves k) ≡ map (labelled_edge t) (map (edge_in same N keys) (N.moves k))
  edges_labelled keys k =
      ap (map (edge_in same P keys)) (moves k)
      ∙ map_same g (edge_in same P keys) (N.moves k)
      ∙ map_equal (λ m. edge_in same P keys (g m)) (λ m. labelled_edge t (edge_in same N keys m)) (N.moves k) (λ m _. edge_labelled keys m)
      ∙ sym (map_same (edge_in same N keys) (labelled_edge t) (N.moves k))

  edges_coded : (keys : List K) (k : K) → All (IsCoded t) (map (edge_in same N keys) (N.moves k))
  edges_coded keys k = All-from_has (IsCoded t) (map (edge_in same N keys) (N.moves k)) (λ e h. let (m, i, c) = map_cases (edge_in same N keys) (N.moves k) e h in subst (IsCoded t) (sym c) (coded k m i _))

  state_labelled : (sorted : Bool) (keys : List K) (k : K) → state_in same sorted P keys k ≡ labelled_state t (state_in same sorted N keys k)
  state_labelled sorted keys k = λ i. let s : State = record { accepting = accepts k i; edges = kept sorted i } in s
    where
      kept : (b : Bool) → cond b (set_of edge_cmp (map (edge_in same P keys) (P.moves k))) (map (edge_in same P keys) (P.moves k))
          ≡ map (labelled_edge t) (cond b (set_of edge_cmp (map (edge_in same N keys) (N.moves k))) (map (edge_in same N keys) (N.moves k)))
      kept true = ap (set_of edge_cmp) (edges_labelled keys k) ∙ sym (labelled_set t a (map (edge_in same N keys) (N.moves k)) (edges_coded keys k))
      kept false = edges_labelled keys k

  states_labelled : (sorted : Bool) (keys : List K) → map (labelled_state t) (map (state_in same sorted N keys) keys) ≡ map (state_in same sorted P keys) keys
  states_labelled sorted keys =
      map_same (state_in same sorted N keys) (labelled_state t) keys
      ∙ map_equal (λ k. labelled_state t (state_in same sorted N keys k)) (state_in same sorted P keys) keys (λ k _. sym (state_labelled sorted keys k))

  -- what is reached with numbers is, with the labels, what is reached with labels
  pub labelled_reachable : (sorted : Bool) (start : K) (sets : ℕ) (B : Automaton) → IsReachable same sorted N start sets B → IsReachable same sorted P start sets (labelled t B)
  labelled_reachable sorted start sets B (n, c, e) =
      let states = λ (keys : List K). let X : Automaton = record { sets = sets; states = map (state_in same sorted P keys) keys } in X in (
        n,
        subst (λ T. IsComplete same T start n) (sym labelled_targets) c,
        ap (labelled t) e
            ∙ (λ i. let X : Automaton = record { sets = sets; states = states_labelled sorted (listing same (targets_of N) start n) i } in X)
            ∙ ap (λ T. states (listing same T start n)) (sym labelled_targets),
      )

  -- and it has numbers of the tables
  pub reachable_coded : (sorted : Bool) (start : K) (sets : ℕ) (B : Automaton) → IsReachable same sorted N start sets B → AreCoded t B
  reachable_coded sorted start sets B (n, c, e) =
      let keys = listing same (targets_of N) start n in
      let IsCodedState : State → Type 0 = λ s. All (IsCoded t) s.edges in
      subst (AreCoded t) (sym e) (All-from_has IsCodedState (map (state_in same sorted N keys) keys) (λ s h.
      let (k, i, f) = map_cases (state_in same sorted N keys) keys s h in
      subst IsCodedState (sym f) (All-from_has (IsCoded t) (state_in same sorted N keys k).edges (λ x j.
      let (m, l, d) = state_edges same sorted N keys k x j in
      subst (IsCoded t) (sym d) (coded k m l _)))))

  -- the same things are listed
  pub labelled_limits : (start : K) → PassesLimits same (targets_of P) start ≡ PassesLimits same (targets_of N) start
  labelled_limits start = ap (λ T. PassesLimits same T start) labelled_targets

-- there are as many edges
pub labelled_sum : (t : Tables) (A : Automaton) → sum_by (λ s. length s.edges) (labelled t A).states ≡ sum_by (λ s. length s.edges) A.states
labelled_sum t A = summed A.states
  where
    summed : (ss : List State) → sum_by (λ s. length s.edges) (map (labelled_state t) ss) ≡ sum_by (λ s. length s.edges) ss
    summed [] = refl
    summed (s ∷ ss) =
        sum_by-cons (λ (r : State). length r.edges) (labelled_state t s) (map (labelled_state t) ss)
        ∙ (λ i. map_length (labelled_edge t) s.edges i + summed ss i)
        ∙ sym (sum_by-cons (λ (r : State). length r.edges) s ss)

module _ (t : Tables) (a : AreTables t) (A : Automaton) (c : AreCoded t A) where
  state_coded : (s : ℕ) (e : Edge) → Has (state_at A s).edges e → IsCoded t e
  state_coded s e h = All-at_has (IsCoded t) (state_at A s).edges (edges_within A (IsCoded t) s c) e h

  -- ---- the copies on levels
  -- a cube is the number of one in the tables
  abbrev IsCodedLevel : LevelEdge → Type 0
  IsCodedLevel e = (n : ℕ) × (e.cube ≡ (coded_edge n 0 0).cube) × (n < length t.cubes)

  abbrev labelled_level : LevelEdge → LevelEdge
  labelled_level e = record { cube = cube_in t e.cube; copy = e.copy }

  cubes_alike : (c d : ℕ) → c < length t.cubes → d < length t.cubes → cube_cmp (cube_in t (coded_edge c 0 0).cube) (cube_in t (coded_edge d 0 0).cube) ≡ cube_cmp (coded_edge c 0 0).cube (coded_edge d 0 0).cube
  cubes_alike c d l m = rising_cmp cube_linear t.cubes c d [] a.cubes l m ∙ sym (coded_cube_cmp c d)

  level_alike : (e f : LevelEdge) → IsCodedLevel e → IsCodedLevel f → level_edge_cmp (labelled_level e) (labelled_level f) ≡ level_edge_cmp e f
  level_alike e f (m, p, l) (n, q, k) =
      let cubes = (λ i. cube_cmp (cube_in t (p i)) (cube_in t (q i))) ∙ cubes_alike m n l k ∙ (λ i. cube_cmp (sym p i) (sym q i)) in
      λ i. ordering_then (cubes i) (ordering_then (nat_cmp e.copy.state f.copy.state) (nat_cmp e.copy.level f.copy.level))

  module _ (p : LevelState) where
    abbrev edges_there : List Edge
    edges_there = (state_at A p.state).edges

    abbrev level_of : Edge → LevelEdge
    level_of = coded_level_edge t A.sets p.level

    level_coded : (e : LevelEdge) → Has (map level_of edges_there) e → IsCodedLevel e
    level_coded e h =
        let (x, i, d) = map_cases level_of edges_there e h in
        let k = state_coded p.state x i in
        (k.cube, ap (λ (y : LevelEdge). y.cube) d ∙ ap (λ (y : Edge). y.cube) k.is, k.cube_within)

    -- the edges of the copy, with the labels
    levels_there : level_edges (labelled t A) p ≡ map labelled_level (set_of level_edge_cmp (map level_of edges_there))
    levels_there =
        ap (λ (r : State). set_of level_edge_cmp (map (level_edge (labelled t A) p.level) r.edges)) (state_at_labelled t A p.state)
        ∙ ap (set_of level_edge_cmp) (map_same (labelled_edge t) (level_edge (labelled t A) p.level) edges_there ∙ sym (map_same level_of labelled_level edges_there))
        ∙ embedded_set level_edge_cmp level_edge_cmp labelled_level IsCodedLevel level_alike (map level_of edges_there) level_coded

    level_moves : (level_net (labelled t A)).successors p ≡ map (labelled_successor t) ((coded_level_net t A).successors p)
    level_moves =
        let kept = set_of level_edge_cmp (map level_of edges_there) in
        let none = (index_there t.marks 0 [] [] a.none).1 in
        ap (map levels.successor_of) levels_there
        ∙ map_same labelled_level levels.successor_of kept
        ∙ map_equal (λ e. levels.successor_of (labelled_level e)) (λ e. labelled_successor t (coded_successor e)) kept (λ e _ i. let m : Move LevelState = record { cube = cube_in t e.cube; key = e.copy; marks = sym none i } in m)
        ∙ sym (map_same coded_successor (labelled_successor t) kept)

    level_move_coded : (m : Move LevelState) → Has ((coded_level_net t A).successors p) m → (n : ℕ) → IsCoded t ((moves_of (coded_level_net t A)).edge m n)
    level_move_coded m h n =
        let (e, i, d) = map_cases coded_successor (set_of level_edge_cmp (map level_of edges_there)) m h in
        let (k, q, l) = level_coded e (set_of_cases level_edge_linear (map level_of edges_there) e i) in
        let is : (moves_of (coded_level_net t A)).edge m n ≡ coded_edge k n 0 =
        ap (λ (x : Move LevelState). (moves_of (coded_level_net t A)).edge x n) d ∙ (λ j. let x : Edge = record { cube = q j; target = n; marks = 0 ∷ [] } in x) in
        record { cube = k; marks = 0; is = is; cube_within = l; marks_within = (index_there t.marks 0 [] [] a.none).0 }

  -- making copies and giving them their labels may change places
  pub levels_labelled : (B : Automaton) → IsReachable same_level_state true (moves_of (coded_level_net t A)) start_copy 0 B → IsReachable same_level_state true (moves_of (level_net (labelled t A))) start_copy 0 (labelled t B)
  levels_labelled =
      labelled_reachable t a same_level_state (moves_of (coded_level_net t A)) (moves_of (level_net (labelled t A))) (labelled_successor t) level_moves (λ m. refl) (λ m n. refl) (λ p. refl) level_move_coded true start_copy 0

  -- the copies have numbers of labels
  pub levels_are_coded : (B : Automaton) → IsReachable same_level_state true (moves_of (coded_level_net t A)) start_copy 0 B → AreCoded t B
  levels_are_coded =
      reachable_coded t a same_level_state (moves_of (coded_level_net t A)) (moves_of (level_net (labelled t A))) (labelled_successor t) level_moves (λ m. refl) (λ m n. refl) (λ p. refl) level_move_coded true start_copy 0

  -- as many copies and edges are found with labels as with their numbers
  pub levels_limits : PassesLimits same_level_state (targets_of (moves_of (level_net (labelled t A)))) start_copy ≡ PassesLimits same_level_state (targets_of (moves_of (coded_level_net t A))) start_copy
  levels_limits =
      labelled_limits t a same_level_state (moves_of (coded_level_net t A)) (moves_of (level_net (labelled t A))) (labelled_successor t) level_moves (λ m. refl) (λ m n. refl) (λ p. refl) level_move_coded start_copy
