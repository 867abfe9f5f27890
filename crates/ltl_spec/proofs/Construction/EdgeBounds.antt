-- What merging and numbering leave of an automaton: what holds of the edges whatever their targets, and no more states and edges.
use Rattle.std.proofs.Common.{◌≡◌, ℕ, ◌<◌, ◌≤◌, Bool, true, false, cond, not, ◌&&◌, List, [], ◌∷◌, map, length, refl, sym, subst, arith}
use Rattle.std.specs.Prelude.{slice_index, slice_index_or, ◌==◌, sum_by}
use Rattle.std.specs.List.{list_any}
use Rattle.std.specs.Ordering.{nat_cmp}
use Rattle.std.specs.declared.cmp.Ordering.TheVariants.{Less}
use Rattle.std.proofs.lemmas.List.{get_or-map}
use Rattle.ltl_spec.specs.Collections.Sets.{Has, IsRising, set_of}
use Rattle.ltl_spec.specs.Collections.Lists.{HasNoRepeats, place_of}
use Rattle.ltl_spec.specs.Automata.Automaton.{Automaton, State, Edge, edge_cmp, state_at}
use Rattle.ltl_spec.specs.Construction.Merging.{same_edge, implies_edge, retargeted_edge, retargeted_state, without_implied, class_names, quotient, merged_automaton}
use Rattle.ltl_spec.specs.Automata.Listing.{listing}
use Rattle.ltl_spec.specs.Automata.Net.{Net, targets_of, edge_in, state_in, listed_automaton}
use Rattle.ltl_spec.specs.Construction.Renumbered.{state_net, renumbered_automaton}
use Rattle.ltl_spec.proofs.Collections.SetLaws.{all_at, irreflexive}
use Rattle.ltl_spec.proofs.Collections.SumLaws.{set_of_length, filter_length, sum_distinct, sum_less}
use Rattle.ltl_spec.proofs.Collections.Orders.{nat_linear, edge_linear}
use Rattle.ltl_spec.proofs.Collections.MemberLaws.{map_length}
use Rattle.ltl_spec.proofs.Collections.SetLaws.{set_of_cases}
use Rattle.ltl_spec.proofs.Automata.ListedStates.{no_state, state_inside}
use Rattle.ltl_spec.proofs.Automata.NetLaws.{state_edges}
use Rattle.ltl_spec.proofs.Semantics.Runs.{IsClosed}
use Rattle.ltl_spec.proofs.Construction.ImpliedEdges.{thin_cases}
use Rattle.ltl_spec.proofs.Construction.QuotientRuns.{retarget_cases}
use Rattle.ltl_spec.proofs.Construction.RenumberedRuns.{reached_states, reached_within, HasNoRepeats-reached, reached_short}

-- ---- what holds of the edges

module _ (P : Edge → Type 0) where
  -- all edges of the automaton are so
  abbrev pub AreAll : Automaton → Type 0
  AreAll A = (s : ℕ) (e : Edge) → Has (state_at A s).edges e → P e

  -- what holds of the edges of each state that is made holds of all
  pub made_all : {K : Type 0} (f : K → State) (list : List K) (d : K) → ((k : K) (e : Edge) → Has (f k).edges e → P e) → (s : ℕ) (e : Edge) → Has (slice_index_or (map f list) s no_state).edges e → P e
  made_all f list d each s e h =
      let long = map_length f list in
      let l = state_inside (map f list) s e h in
      each (slice_index_or list s d) e (subst (λ (v : State). Has v.edges e) (get_or-map f list s d no_state (omega arith)) h)

  -- what holds of the edges of all moves, wherever these lead, holds of the automaton that is listed
  pub moves_all : {K M : Type 0} (same : K → K → Bool) (sorted : Bool) (net : Net K M) → ((k : K) (m : M) → Has (net.moves k) m → (n : ℕ) → P (net.edge m n)) → (start : K) (sets n : ℕ) → AreAll (listed_automaton same sorted net start sets n)
  moves_all {K} {M} same sorted net each start sets n =
      let keys = listing same (targets_of net) start n in
      made_all (state_in same sorted net keys) keys start (λ k e h.
      let (m, i, q) = state_edges same sorted net keys k e h in subst P (sym q) (each k m i (place_of same (net.target m) keys)))

  -- it doesn't depend on the target
  module _ (keeps : (f : ℕ → ℕ) (e : Edge) → P e → P (retargeted_edge f e)) (A : Automaton) (all : AreAll A) where
    retargeted_all : (f : ℕ → ℕ) (s : ℕ) (e : Edge) → Has (retargeted_state f (state_at A s)).edges e → P e
    retargeted_all f s e h = let (x, k, q) = retarget_cases f (state_at A s) e h in subst P (sym q) (keeps f x (all s x k))

    quotient_all : (keep : Bool) (names : List ℕ) → AreAll (quotient keep names A)
    quotient_all keep names s e h =
        made_all (λ c. without_implied keep (retargeted_state (λ t. place_of ◌==◌ (slice_index names t) (set_of nat_cmp names)) (state_at A c))) (set_of nat_cmp names) 0
        (λ c x m. retargeted_all (λ t. place_of ◌==◌ (slice_index names t) (set_of nat_cmp names)) c x
        (thin_cases keep (retargeted_state (λ t. place_of ◌==◌ (slice_index names t) (set_of nat_cmp names)) (state_at A c)) x m)) s e h

    pub merged_all : (keep_implied keep_equal : Bool) → AreAll (merged_automaton keep_implied keep_equal A)
    merged_all keep_implied keep_equal = quotient_all keep_implied (class_names A (cond keep_equal 0 (length A.states)))

    pub renumbered_all : AreAll (renumbered_automaton A)
    renumbered_all = moves_all ◌==◌ true (state_net A) (λ s e h n. keeps (λ _. n) e (all s e (set_of_cases edge_linear (state_at A s).edges e h))) 0 A.sets (length A.states)

-- ---- how many states and edges there are

abbrev pub edge_count : Automaton → ℕ
edge_count A = sum_by (λ s. length s.edges) A.states

pub thin_length : (keep_implied : Bool) (s : State) → length (without_implied keep_implied s).edges ≤ length s.edges
thin_length true s = omega arith
thin_length false s = filter_length (λ e. not (list_any (λ f. not (same_edge f e) && implies_edge f e) s.edges)) s.edges

pub HasNoRepeats-rising : (xs : List ℕ) → IsRising nat_cmp xs → HasNoRepeats xs
HasNoRepeats-rising [] r = tt
HasNoRepeats-rising (x ∷ xs) r = ((λ h. irreflexive nat_linear x x (all_at (λ z. nat_cmp x z ≡ Less) xs x r.0 h) refl), HasNoRepeats-rising xs r.1)

-- states that are made of different states, each with no more edges than its own
made_few : (A : Automaton) (f : ℕ → State) (list : List ℕ) → HasNoRepeats list → ((s : ℕ) → Has list s → s < length A.states) → ((s : ℕ) → length (f s).edges ≤ length (state_at A s).edges)
    → sum_by (λ s. length s.edges) (map f list) ≤ edge_count A
made_few A f list differ inside less =
    let a = sum_less f (λ (s : State). length s.edges) (λ s. length (state_at A s).edges) less list in
    let b = sum_distinct (λ (s : State). length s.edges) no_state A.states list differ inside in
    omega arith

module _ (A : Automaton) (closed : IsClosed A) where
  abbrev reached_state : ℕ → State
  reached_state s = state_in ◌==◌ true (state_net A) (reached_states A) s

  reached_length : (s : ℕ) → length (reached_state s).edges ≤ length (state_at A s).edges
  reached_length s =
      let es = (state_at A s).edges in
      let f = edge_in ◌==◌ (state_net A) (reached_states A) in
      let a = set_of_length edge_cmp es in
      let b = map_length f (set_of edge_cmp es) in
      let c = set_of_length edge_cmp (map f (set_of edge_cmp es)) in
      omega arith

  -- numbering makes no more states
  pub renumbered_few : length (renumbered_automaton A).states ≤ length A.states
  renumbered_few = let a = map_length reached_state (reached_states A) in let b = reached_short A closed in omega arith

  -- and no more edges
  pub renumbered_few_edges : edge_count (renumbered_automaton A) ≤ edge_count A
  renumbered_few_edges = made_few A reached_state (reached_states A) (HasNoRepeats-reached A closed) (reached_within A closed) reached_length
