-- An automaton that was read, and the same with its start as state 0.
use Rattle.std.proofs.Common.{◌≡◌, ℕ, zero, suc, ◌+◌, ◌<◌, ◌≤◌, Bool, true, false, ◌↔◌, inl, inr, List, [], ◌∷◌, map, length, refl, sym, ◌∙◌, ap, subst, arith}
use Rattle.std.specs.Prelude.{◌==◌, if◌then◌else◌, slice_index_or, sum_by, All, IsTrue}
use Rattle.std.specs.List.{range_with_len}
use Rattle.std.proofs.lemmas.Bool.{cases_lt, eqb-true}
use Rattle.std.proofs.lemmas.Bool.Decides.{Decides-eqb, nat_tests}
use Rattle.std.proofs.lemmas.List.{get_or-map}
use Rattle.std.proofs.lemmas.List.FromFn.{get_or-map-range_with_len, get_or-range_with_len, length-range_with_len, length-map-range_with_len, map-range_with_len_more}
use Rattle.ltl_spec.specs.Collections.Sets.{Has}
use Rattle.ltl_spec.specs.Collections.Lists.{HasNoRepeats}
use Rattle.ltl_spec.specs.Semantics.Word.{Lasso}
use Rattle.ltl_spec.specs.Automata.Automaton.{Automaton, Edge, State, Accepts, state_at}
use Rattle.ltl_spec.specs.Checking.Bounds.{HasNamesBelow}
use Rattle.ltl_spec.specs.Checking.Check.{MarkedAccepts, graph_of}
use Rattle.ltl_spec.specs.Construction.Merging.{retargeted_edge}
use Rattle.ltl_spec.specs.Hoa.HoaReading.{MarkedAutomaton}
use Rattle.ltl_spec.specs.Tools.Limits.{stated_limits}
use Rattle.ltl_spec.proofs.Automata.ListedStates.{has_edge_below, no_state}
use Rattle.ltl_spec.proofs.Collections.ListLaws.{All-at_has, All-from_has, Has-at, HasNoRepeats-map}
use Rattle.ltl_spec.proofs.Collections.MemberLaws.{Has-map, map_cases, map_length}
use Rattle.ltl_spec.proofs.Collections.SumLaws.{sum_distinct}
use Rattle.ltl_spec.proofs.Hoa.GeneralizedBack.{range_below, range_differs, sum_same}
use Rattle.ltl_automaton.specs.Net.{Move, edges_to, successor_of}
use Rattle.ltl_automaton.specs.SharedView.{with_state}
use Rattle.ltl_hoa.specs.MarkedView.{IsEdgeWithin, IsMarked, edge_of}
use Rattle.ltl_hoa.specs.declared.marked.MarkedEdge as read
use Rattle.ltl_models.specs.GbaView as gba
use Rattle.ltl_reduce.specs.Importing.{IsFineEdge, edges_from, exchanged, numbers_of, started, started_state, started_to, step_edge}
use Rattle.ltl_reduce.specs.declared.importing.ReadEdge.{ReadEdge}
use Rattle.ltl_reduce.specs.Reduction.{edge_count}
use Rattle.ltl_reduce.specs.Simulation.{AreDead, AreLevels, IsSimulation}
use Rattle.ltl_reduce.proofs.SimulationLaws.{simulated}

-- ---- the start and state 0 exchange their numbers

first_number : (a k : ℕ) → (k == 0) ≡ true → exchanged a k ≡ a
first_number a k e = ap (λ (b : Bool). if b then a else if k == a then 0 else k) e

start_number : (a k : ℕ) → (k == 0) ≡ false → (k == a) ≡ true → exchanged a k ≡ 0
start_number a k e f = ap (λ (b : Bool). if b then a else if k == a then 0 else k) e ∙ ap (λ (b : Bool). if b then 0 else k) f

other_number : (a k : ℕ) → (k == 0) ≡ false → (k == a) ≡ false → exchanged a k ≡ k
other_number a k e f = ap (λ (b : Bool). if b then a else if k == a then 0 else k) e ∙ ap (λ (b : Bool). if b then 0 else k) f

pub start_first : (a : ℕ) → exchanged a a ≡ 0
start_first zero = refl
start_first (suc a) = start_number (suc a) (suc a) (grind (arith, nat_tests)) ((Decides-eqb (suc a) (suc a)).1 refl)

pub exchanged_again : (a k : ℕ) → exchanged a (exchanged a k) ≡ k
exchanged_again a k = go (k == 0) refl (k == a) refl
  where
    go : (b : Bool) → (k == 0) ≡ b → (c : Bool) → (k == a) ≡ c → exchanged a (exchanged a k) ≡ k
    go true e c f = ap (exchanged a) (first_number a k e) ∙ start_first a ∙ sym (eqb-true k 0 e)
    go false e true f = ap (exchanged a) (start_number a k e f) ∙ sym (eqb-true k a f)
    go false e false f = ap (exchanged a) (other_number a k e f) ∙ other_number a k e f

pub exchanged_below : (a k n : ℕ) → a < n → k < n → exchanged a k < n
exchanged_below a k n l m = go (k == 0) refl (k == a) refl
  where
    go : (b : Bool) → (k == 0) ≡ b → (c : Bool) → (k == a) ≡ c → exchanged a k < n
    go true e c f = subst (λ j. j < n) (sym (first_number a k e)) l
    go false e true f = subst (λ j. j < n) (sym (start_number a k e f)) (omega (arith, l))
    go false e false f = subst (λ j. j < n) (sym (other_number a k e f)) m

-- ---- edges with new targets

pub edges_renumbered : (a : ℕ) (es : List Edge) → edges_to (map successor_of es) (numbers_of a es) ≡ map (retargeted_edge (exchanged a)) es
unfolding edges_to
edges_renumbered a [] = refl
edges_renumbered a (e ∷ es) = ap (λ rest. retargeted_edge (exchanged a) e ∷ rest) (edges_renumbered a es)

-- the steps of these edges, whose labels are sets
pub record AreSteps (edges : List read.MarkedEdge) (made : List ReadEdge) : Type 0 where
  pub steps : map step_edge made ≡ map edge_of edges
  pub fine : All IsFineEdge (map edge_of edges)

-- the states so far and one more
pub started_next : (A : MarkedAutomaton) (k : ℕ) → with_state (started_to A k) true (map (retargeted_edge (exchanged A.start)) (edges_from A (exchanged A.start k))) ≡ started_to A (k + 1)
started_next A k = ap (λ ss. record { sets = A.sets; states = ss }) (sym (map-range_with_len_more (started_state A) 0 k k (omega arith)))

-- the first k states were made, of edges whose labels are sets
pub record IsUnderWay (A : MarkedAutomaton) (k : ℕ) (built : Automaton) (Ready : Type 0) : Type 0 where
  pub made : built ≡ started_to A k
  pub ready : Ready
  pub fine : (j : ℕ) → j < k → All IsFineEdge (edges_from A (exchanged A.start j))

pub way_goes_on : (A : MarkedAutomaton) (k : ℕ) (built more : Automaton) (Ready Next : Type 0) (edges : List Edge) (moves : List (Move ℕ)) (targets : List ℕ)
    → IsUnderWay A k built Ready → edges ≡ edges_from A (exchanged A.start k) → moves ≡ map successor_of edges → targets ≡ numbers_of A.start edges → All IsFineEdge edges
    → more ≡ with_state built true (edges_to moves targets) → Next → IsUnderWay A (k + 1) more Next
way_goes_on A k built more Ready Next edges moves targets h is steps numbers fine e next = record {
  made =
      e ∙ (λ i. with_state (h.made i) true (edges_to (steps i) (numbers i)))
      ∙ ap (with_state (started_to A k) true) (edges_renumbered A.start edges ∙ ap (map (retargeted_edge (exchanged A.start))) is)
      ∙ started_next A k;
  ready = next;
  fine = λ j l. elim (cases_lt j k) [ inl m ↦ h.fine j m | inr m ↦ let same : k ≡ j = omega (arith, l, m) in subst (λ i. All IsFineEdge (edges_from A (exchanged A.start i))) same (subst (All IsFineEdge) is fine) ];
}

-- ---- the automaton

module _ (A : MarkedAutomaton) (m : IsMarked A) where
  abbrev a : ℕ
  a = A.start

  abbrev numbers : List ℕ
  numbers = range_with_len 0 A.states

  pub state_count : length (started A).states ≡ A.states
  state_count = length-map-range_with_len (started_state A) 0 A.states

  started_at : (k : ℕ) → k < A.states → state_at (started A) k ≡ started_state A k
  started_at k l = get_or-map-range_with_len (started_state A) 0 A.states k k no_state l (omega arith)

  -- a state of the graph by its number
  graph_at : (k : ℕ) → k < length A.edges → state_at (graph_of A) k ≡ record { accepting = true; edges = edges_from A k }
  graph_at k l = get_or-map (λ es. record { accepting = true; edges = es }) A.edges k [] no_state l

  graph_below : (k : ℕ) (e : Edge) → Has (state_at (graph_of A) k).edges e → k < length A.edges
  graph_below k e h = subst (λ n. k < n) (map_length (λ es. let s : State = record { accepting = true; edges = es } in s) A.edges) (has_edge_below (graph_of A) k e h)

  started_below : (k : ℕ) (e : Edge) → Has (state_at (started A) k).edges e → k < A.states
  started_below k e h = subst (λ n. k < n) state_count (has_edge_below (started A) k e h)

  edge_has : (k : ℕ) (e : Edge) → Has (state_at (graph_of A) k).edges e → Has (edges_from A k) e
  edge_has k e h = subst (λ (s : State). Has s.edges e) (graph_at k (graph_below k e h)) h

  -- an edge of the new automaton is one of the given automaton
  started_cases : (k : ℕ) (f : Edge) → Has (state_at (started A) k).edges f → (e : Edge) × Has (edges_from A (exchanged a k)) e × (f ≡ retargeted_edge (exchanged a) e)
  started_cases k f h = map_cases (retargeted_edge (exchanged a)) (edges_from A (exchanged a k)) f (subst (λ (s : State). Has s.edges f) (started_at k (started_below k f h)) h)

  -- ---- both accept the same

  levels : (B : Automaton) → B.sets ≡ A.sets → AreLevels B (λ s. 0) (λ l. A.sets)
  levels B e = record { falls = λ s e h. omega arith; lacks = λ s d h q l. absurd (let same : B.sets ≡ A.sets = e in omega (arith, l, same)) }

  dead : (B : Automaton) → AreDead B (λ s. 0) (λ l. A.sets) (λ s. ⊥)
  dead B = record { stays = λ s e d h. d; free = λ s e d h. absurd d }

  to_match : IsSimulation (graph_of A) (λ s. 0) (λ l. A.sets) (λ s. ⊥) (started A) (λ s t. t ≡ exchanged a s)
  to_match s t q e h =
      let below : s < A.states = subst (λ n. s < n) m.counted (graph_below s e h) in
      let there : t < A.states = subst (λ j. j < A.states) (sym q) (exchanged_below a s A.states m.begins below) in
      let back : exchanged a t ≡ s = ap (exchanged a) q ∙ exchanged_again a s in
      let has = Has-map (retargeted_edge (exchanged a)) (edges_from A (exchanged a t)) e (subst (λ j. Has (edges_from A j) e) (sym back) (edge_has s e h)) in
      inr (retargeted_edge (exchanged a) e, subst (λ (r : State). Has r.edges (retargeted_edge (exchanged a) e)) (sym (started_at t there)) has, record { cube = λ l g. g; target = refl; marks = inr (λ k g. g) })

  from_match : IsSimulation (started A) (λ s. 0) (λ l. A.sets) (λ s. ⊥) (graph_of A) (λ t s. s ≡ exchanged a t)
  from_match t s q f h =
      let (e, has, is) = started_cases t f h in
      let below : exchanged a t < A.states = exchanged_below a t A.states m.begins (started_below t f h) in
      let there : s < length A.edges = subst (λ j. j < length A.edges) (sym q) (subst (λ n. exchanged a t < n) (sym m.counted) below) in
      let here : Has (state_at (graph_of A) s).edges e = subst (λ (r : State). Has r.edges e) (sym (graph_at s there)) (subst (λ j. Has (edges_from A j) e) (sym q) has) in
      inr (
        e,
        here,
        record {
          cube = λ l g. subst (λ (x : Edge). Has x.cube l) (sym is) g;
          target = sym (ap (λ (x : Edge). exchanged a x.target) is ∙ exchanged_again a e.target);
          marks = inr (λ k g. subst (λ (x : Edge). Has x.marks k) is g);
        },
      )

  -- where each state accepts
  all_accept : {X : Type 0} (f : X → State) → ((x : X) → (f x).accepting ≡ true) → (xs : List X) (s : ℕ) → IsTrue (slice_index_or (map f xs) s no_state).accepting
  all_accept f e [] zero = refl
  all_accept f e [] (suc s) = refl
  all_accept f e (x ∷ xs) zero = e x
  all_accept f e (x ∷ xs) (suc s) = all_accept f e xs s

  pub accepts_started : (w : Lasso) → 0 < length w.cycle → MarkedAccepts A w ↔ Accepts A.names (started A) w
  accepts_started w l = (
    simulated (graph_of A) (λ s. 0) (λ l. A.sets) (levels (graph_of A) refl) (λ s. ⊥) (dead (graph_of A)) (started A) (all_accept (started_state A) (λ k. refl) numbers) refl (λ s t. t ≡ exchanged a s)
        to_match a 0 (inl (sym (start_first a))) A.names w l,
    simulated (started A) (λ s. 0) (λ l. A.sets) (levels (started A) refl) (λ s. ⊥) (dead (started A)) (graph_of A) (all_accept (λ es. record { accepting = true; edges = es }) (λ es. refl) A.edges) refl (λ t s. s ≡ exchanged a t)
        from_match 0 a (inl refl) A.names w l,
  )

  -- ---- counts

  below : (k : ℕ) → Has numbers k → k < A.states
  below k h = let r = (range_below 0 A.states k h).1 in omega (arith, r)

  inside : (k : ℕ) → Has numbers k → exchanged a k < length A.edges
  inside k h = subst (λ n. exchanged a k < n) (sym m.counted) (exchanged_below a k A.states m.begins (below k h))

  pub few_edges : edge_count (started A) ≤ sum_by length A.edges
  few_edges =
      let once : HasNoRepeats (map (exchanged a) numbers) = HasNoRepeats-map (exchanged a) numbers (λ j k g h e. sym (exchanged_again a j) ∙ ap (exchanged a) e ∙ exchanged_again a k) (range_differs 0 A.states) in
      let most = sum_distinct length [] A.edges (map (exchanged a) numbers) once (λ z h. let (k, g, e) = map_cases (exchanged a) numbers z h in subst (λ j. j < length A.edges) (sym e) (inside k g)) in
      let states = sum_same (started_state A) (λ (s : State). length s.edges) (λ k. length (edges_from A (exchanged a k))) 0 numbers (λ k h. map_length (retargeted_edge (exchanged a)) (edges_from A (exchanged a k))) in
      let places = sum_same (exchanged a) (λ j. length (edges_from A j)) (λ k. length (edges_from A (exchanged a k))) 0 numbers (λ k h. refl) in
      subst (λ n. n ≤ sum_by length A.edges) (sym (states ∙ sym places)) most

  edge_within : (k : ℕ) → Has numbers k → (e : Edge) → Has (edges_from A (exchanged a k)) e → IsEdgeWithin (length A.names) A.states A.sets e
  edge_within k h e g =
      All-at_has (IsEdgeWithin (length A.names) A.states A.sets) (edges_from A (exchanged a k))
      (All-at_has (λ es. All (IsEdgeWithin (length A.names) A.states A.sets) es) A.edges m.within (edges_from A (exchanged a k)) (Has-at A.edges (exchanged a k) [] (inside k h))) e g

  pub names_started : HasNamesBelow (length A.names) (started A)
  names_started s f h l q =
      let (e, g, is) = started_cases s f h in
      let low = started_below s f h in
      let range : Has numbers s = number_has s low in
      All-at_has (λ (j : _). j.proposition < length A.names) e.cube (edge_within s range e g).cube l (subst (λ (x : Edge). Has x.cube l) is q)
    where
      number_has : (s : ℕ) → s < A.states → Has numbers s
      number_has s l = let same : 0 + s ≡ s = omega arith in subst (Has numbers) (get_or-range_with_len 0 A.states s 0 l ∙ same) (Has-at numbers s 0 (subst (λ n. s < n) (sym (length-range_with_len 0 A.states)) l))

  module _ (fine : (k : ℕ) → k < A.states → All IsFineEdge (edges_from A (exchanged a k))) where
    pub started_gba : gba.IsAcceptingGba (started A)
    started_gba = record {
      inside = record {
        some = subst (λ n. 0 < n) (sym state_count) (let b = m.begins in omega (arith, b));
        few_states = subst (λ n. n ≤ stated_limits.states) (sym state_count) m.few_states;
        few_edges = let f : edge_count (started A) ≤ sum_by length A.edges = few_edges in let g : sum_by length A.edges ≤ stated_limits.hoa_edges = m.few_edges in omega (arith, f, g);
        few_sets = let s : A.sets ≤ 32 = m.few_sets in omega (arith, s);
        within = All-from_has _ (started A).states (λ s h. let (k, g, e) = map_cases (started_state A) numbers s h in subst (λ (r : State). All (gba.IsEdgeWithin (length (started A).states) A.sets) r.edges) (sym e) (state_within k g));
      };
      accepting = All-from_has _ (started A).states (λ s h. let (k, g, e) = map_cases (started_state A) numbers s h in ap (λ (r : State). r.accepting) e);
    }
      where
        state_within : (k : ℕ) → Has numbers k → All (gba.IsEdgeWithin (length (started A).states) A.sets) (started_state A k).edges
        state_within k h = All-from_has _ (started_state A k).edges (λ f g.
            let (e, had, is) = map_cases (retargeted_edge (exchanged a)) (edges_from A (exchanged a k)) f g in
            let w = edge_within k h e had in
            let x = All-at_has IsFineEdge (edges_from A (exchanged a k)) (fine k (below k h)) e had in
            subst (gba.IsEdgeWithin (length (started A).states) A.sets) (sym is) (record {
              target = subst (λ n. exchanged a e.target < n) (sym state_count) (exchanged_below a e.target A.states m.begins w.target);
              marks = w.marks;
              rising = record { cube = x.sets.cube; marks = x.sets.marks };
              consistent = x.consistent;
            }))
