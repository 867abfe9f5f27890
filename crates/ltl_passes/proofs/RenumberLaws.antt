-- An automaton that is listed from its own states is the renumbered one, and what an automaton keeps when it is numbered.
use Rattle.std.proofs.Common.{◌≡◌, ℕ, ◌<◌, ◌≤◌, true, false, inl, inr, List, [], ◌∷◌, length, map, refl, sym, ◌∙◌, ap, subst, arith}
use Rattle.std.specs.Prelude.{slice_index_or, sum_by, take, ◌==◌, All}
use Rattle.std.proofs.lemmas.Bool.Decides.{Decides-eqb}
use Rattle.std.proofs.lemmas.List.{length-map, get_or_past}
use Rattle.std.proofs.lemmas.Simd.{map-map}
use Rattle.std.proofs.lemmas.List.Sums.{sum_by-cons}
use Rattle.std.proofs.lemmas.List.Elements.{All-map, All-weaker}
use Rattle.ltl_spec.specs.Collections.Sets.{Has, IsRising, set_of}
use Rattle.ltl_spec.specs.Collections.Lists.{place_of}
use Rattle.ltl_spec.specs.Automata.Automaton.{Automaton, State, Edge, edge_cmp, state_at}
use Rattle.ltl_spec.specs.Automata.Listing.{listing, PassesLimits}
use Rattle.ltl_spec.specs.Construction.ImpliedEdges.{IsSetEdge}
use Rattle.ltl_spec.specs.Transitions.Cubes.{is_contradictory}
use Rattle.ltl_spec.specs.Automata.Net.{targets_of, edge_in, state_in, IsReachable}
use Rattle.ltl_spec.specs.Construction.Renumbered.{state_net, renumbered_automaton}
use Rattle.ltl_spec.specs.Tools.Limits.{stated_limits}
use Rattle.ltl_spec.proofs.Collections.Orders.{edge_linear}
use Rattle.ltl_spec.proofs.Collections.SetLaws.{set_of_same, IsRising-set_of}
use Rattle.ltl_spec.proofs.Collections.MemberLaws.{map_cases}
use Rattle.ltl_spec.proofs.Collections.ListLaws.{All-at_has, All-from_has, Has-at}
use Rattle.ltl_spec.proofs.Automata.ListedStates.{any_state}
use Rattle.ltl_spec.proofs.Automata.NetLaws.{limits_alike, reachable_alike, Has-state_edge}
use Rattle.ltl_spec.proofs.Automata.ListingReach.{listed_within, listed_short, HasNoRepeats-listed}
use Rattle.ltl_spec.proofs.Construction.EdgeBounds.{AreAll, renumbered_all, renumbered_few, renumbered_few_edges}
use Rattle.ltl_spec.proofs.Construction.RenumberedRuns.{leads, reached_states, complete_reached, reached_short, renumbered_closed}
use Rattle.ltl_spec.proofs.Semantics.Runs.{IsClosed}
use Rattle.ltl_spec.proofs.Collections.SumLaws.{set_of_length, taken_sum}
use Rattle.ltl_automaton.specs.Net.{Net, moves_of}
use Rattle.ltl_automaton.proofs.WayLaws.{Has_taken_at, take_whole}
use Rattle.ltl_models.specs.GbaView as gba
use Rattle.ltl_models.specs.BaView.{IsBa, IsPlain}
use Rattle.ltl_automaton.specs.CodedEdges.{coded_edge_of}
use Rattle.ltl_automaton.specs.declared.coded_edge.CodedEdge as coded
use Rattle.ltl_passes.specs.Numbered.{IsNumberable, number_move, successor_of, net_of}
use Rattle.ltl_passes.proofs.MergedLaws.{of_all, gba_within}
use Rattle.ltl_passes.proofs.ReachedLaws.{listed_reached}
use Rattle.ltl_passes.proofs.Sums.{HasNoRepeats_take}
use Rattle.ltl_models.proofs.Within.{edges_within}
use Rattle.ltl_automaton.proofs.TableLaws.{states_at}
use Rattle.ltl_passes.proofs.TargetLaws.{closed_within}

-- past the last state
pub accepts_past : (A : Automaton) (s : ℕ) → length A.states ≤ s → true ≡ (state_at A s).accepting
accepts_past A s l = ap (λ (t : State). t.accepting) (sym (get_or_past A.states s (record { accepting = true; edges = [] }) l))

pub no_successors_past : (A : Automaton) (s : ℕ) → length A.states ≤ s → [] ≡ map successor_of (state_at A s).edges
no_successors_past A s l = ap (λ (t : State). map successor_of t.edges) (sym (get_or_past A.states s (record { accepting = true; edges = [] }) l))

-- the edges of a state, as the code lends them
pub lent_successors : (A : Automaton) (s : ℕ) (edges : List coded.CodedEdge) → map coded_edge_of edges ≡ (state_at A s).edges → map number_move edges ≡ (net_of A).successors s
lent_successors A s edges e = sym (map-map successor_of coded_edge_of edges) ∙ ap (map successor_of) e

sums_less : {K : Type 0} (f g : K → ℕ) (xs : List K) → ((x : K) → f x ≤ g x) → sum_by f xs ≤ sum_by g xs
sums_less f g [] h = omega arith
sums_less f g (x ∷ xs) h = let a = sum_by-cons f x xs in let b = sum_by-cons g x xs in let c = sums_less f g xs h in let d = h x in omega arith

module _ (A : Automaton) (inside : IsNumberable A) where
  abbrev N : Net ℕ
  N = net_of A

  closed : IsClosed A
  closed = record {
    begins = inside.bounded.some;
    inside = λ s e h. All-at_has (λ (f : Edge). f.target < length A.states) (state_at A s).edges
        (edges_within A (λ (f : Edge). f.target < length A.states) s inside.bounded.within) e h;
  }

  -- edges that rise are those that the definition makes rise
  alike : (s : ℕ) → map successor_of (state_at A s).edges ≡ map successor_of (set_of edge_cmp (state_at A s).edges)
  alike s =
      let rises = states_at A (λ (t : State). IsRising edge_cmp t.edges) s tt inside.rising in
      ap (map successor_of) (sym (set_of_same edge_linear (state_at A s).edges rises))

  abbrev keys : ℕ → List ℕ
  keys n = listing ◌==◌ (targets_of (state_net A)) 0 n

  -- it is within the limits that the automaton is within
  none_passed : PassesLimits ◌==◌ (targets_of (state_net A)) 0 stated_limits.states stated_limits.edges → ⊥
  none_passed (n, inl p) =
      let short = listed_short ◌==◌ Decides-eqb (targets_of (state_net A)) 0 (λ s. s < length A.states) closed.begins (leads A closed) (λ t. t) (length A.states) (λ t l. l) (λ t u l m e. e) n in
      let few = inside.bounded.few_states in
      omega arith
  none_passed (n, inr p) =
      let places = take n (keys n) in
      let d = HasNoRepeats_take n (keys n) (HasNoRepeats-listed ◌==◌ Decides-eqb (targets_of (state_net A)) 0 n) in
      let below : (z : ℕ) → Has places z → z < length A.states = λ z h.
      let q = Has_taken_at n (keys n) z h in
      listed_within ◌==◌ Decides-eqb (targets_of (state_net A)) 0 (λ s. s < length A.states) closed.begins (leads A closed) n z (subst (Has (keys n)) q.3 (Has-at (keys n) q.0 z q.2)) in
      let total = taken_sum (λ (s : State). length s.edges) (record { accepting = true; edges = [] }) A.states (length A.states) places (omega arith) d below in
      let whole = ap (sum_by (λ (s : State). length s.edges)) (take_whole (length A.states) A.states (omega arith)) in
      let less = sums_less (λ s. length (targets_of (state_net A) s)) (λ s. length (state_at A s).edges) places
      (λ s. let e = length-map (set_of edge_cmp (state_at A s).edges) (λ (e : Edge). e.target) in let f = set_of_length edge_cmp (state_at A s).edges in omega arith) in
      let few = inside.bounded.few_edges in
      omega arith

  pub never_too_large : PassesLimits ◌==◌ (targets_of (moves_of N)) 0 stated_limits.states stated_limits.edges → ⊥
  never_too_large p =
      none_passed (subst (λ (P : ℕ → ℕ → Type 0). P stated_limits.states stated_limits.edges) (limits_alike ◌==◌ (state_net A) (moves_of N) successor_of alike (λ e. refl) (λ e n. refl) (λ s. refl) 0) p)

  -- it is the automaton by its new numbers
  pub is_renumbered : (B : Automaton) → IsReachable ◌==◌ true (moves_of N) 0 A.sets B → B ≡ renumbered_automaton A
  is_renumbered B w =
      let (n, c, e) = reachable_alike ◌==◌ (state_net A) (moves_of N) successor_of alike (λ e. refl) (λ e n. refl) (λ s. refl) true 0 A.sets B w in
      e ∙ ap (λ ks. let X : Automaton = record { sets = A.sets; states = map (state_in ◌==◌ true (state_net A) ks) ks } in X) (complete_reached A closed n c)

-- what can be numbered
pub ba_numberable : (A : Automaton) → IsBa A → IsNumberable A
ba_numberable A w = record { bounded = record { some = w.some; few_states = w.few_states; few_edges = w.few_edges; within = w.within }; rising = w.rising }

pub gba_numberable : (A : Automaton) → gba.IsGba A → All (λ s. IsRising edge_cmp s.edges) A.states → IsNumberable A
gba_numberable A w r = record { bounded = record { some = w.some; few_states = w.few_states; few_edges = w.few_edges; within = gba_within A w }; rising = r }

-- ---- what the numbered automaton keeps

module _ (A : Automaton) where
  abbrev R : Automaton
  R = renumbered_automaton A

  abbrev renumbered_state : List ℕ → ℕ → State
  renumbered_state = state_in ◌==◌ true (state_net A)

  abbrev row_of : ℕ → State
  row_of = renumbered_state (reached_states A)

  abbrev Consistent : Edge → Type 0
  Consistent e = is_contradictory e.cube ≡ false

  -- what holds of the edges at each number holds of those of all states
  by_states : (P : Edge → Type 0) → AreAll P R → All (λ s. All P s.edges) R.states
  by_states P all k d b = All-from_has P (slice_index_or R.states k d).edges (λ e m. all k e (subst (λ (s : State). Has s.edges e) (any_state R.states k d b) m))

  pub renumbered_rising : All (λ s. IsRising edge_cmp s.edges) R.states
  renumbered_rising = All-map (λ (s : State). IsRising edge_cmp s.edges) row_of (reached_states A) (λ k d m. IsRising-set_of edge_linear (map (edge_in ◌==◌ (state_net A) (reached_states A)) (set_of edge_cmp (state_at A (slice_index_or (reached_states A) k d)).edges)))

  pub renumbered_accepting : All (λ s. s.accepting ≡ true) A.states → All (λ s. s.accepting ≡ true) R.states
  renumbered_accepting a = All-map (λ (s : State). s.accepting ≡ true) row_of (reached_states A) (λ k d m. states_at A (λ (t : State). t.accepting ≡ true) (slice_index_or (reached_states A) k d) refl a)

  renumbered_unmarked : IsPlain A → IsPlain R
  renumbered_unmarked u = by_states (λ e. e.marks ≡ []) (renumbered_all (λ e. e.marks ≡ []) (λ f e m. m) A (of_all A (λ e. e.marks ≡ []) u))

  module _ (closed : IsClosed A) where
    closed_again : IsClosed R
    closed_again = renumbered_closed A closed

    has_edge : (ks : List ℕ) (s t : ℕ) → Has (targets_of (state_net A) s) t → (e : Edge) × Has (renumbered_state ks s).edges e × (e.target ≡ place_of ◌==◌ t ks)
    has_edge ks s t h =
        let (e, k, q) = map_cases (λ (f : Edge). f.target) (set_of edge_cmp (state_at A s).edges) t h in
        (edge_in ◌==◌ (state_net A) ks e, Has-state_edge ◌==◌ true (state_net A) ks s e k, ap (λ u. place_of ◌==◌ u ks) (sym q))

    pub renumbered_gba : gba.IsGba A → gba.IsGba R
    renumbered_gba w = record {
      some = closed_again.begins;
      few_states = let a = renumbered_few A closed in let b = w.few_states in omega arith;
      few_edges = let a = renumbered_few_edges A closed in let b = w.few_edges in omega arith;
      few_sets = w.few_sets;
      within = by_states (gba.IsEdgeWithin (length R.states) A.sets) (λ s e h. record { target = closed_again.inside s e h; marks = marks s e h; rising = rising s e h; consistent = consistent s e h });
    }
      where
        edge : AreAll (gba.IsEdgeWithin (length A.states) A.sets) A
        edge = of_all A (gba.IsEdgeWithin (length A.states) A.sets) w.within

        marks : AreAll (λ e. All (λ k. k < A.sets) e.marks) R
        marks = renumbered_all (λ e. All (λ k. k < A.sets) e.marks) (λ f e m. m) A (λ s e h. (edge s e h).marks)

        rising : AreAll IsSetEdge R
        rising = renumbered_all IsSetEdge (λ f e m. record { cube = m.cube; marks = m.marks }) A (λ s e h. (edge s e h).rising)

        consistent : AreAll Consistent R
        consistent = renumbered_all Consistent (λ f e m. m) A (λ s e h. (edge s e h).consistent)

    pub renumbered_ba : IsBa A → IsBa R
    renumbered_ba w = record {
      no_sets = w.no_sets;
      some = closed_again.begins;
      few_states = let a = renumbered_few A closed in let b = w.few_states in omega arith;
      few_edges = let a = renumbered_few_edges A closed in let b = w.few_edges in omega arith;
      within = by_states (λ e. e.target < length R.states) closed_again.inside;
      plain = renumbered_unmarked w.plain;
      sets = by_states IsSetEdge (renumbered_all IsSetEdge (λ f e m. record { cube = m.cube; marks = m.marks }) A (of_all A IsSetEdge w.sets));
      consistent = by_states Consistent (renumbered_all Consistent (λ f e m. m) A (of_all A Consistent w.consistent));
      rising = renumbered_rising;
      reached = listed_reached ◌==◌ Decides-eqb (targets_of (state_net A)) 0 renumbered_state A.sets (length A.states) (reached_short A closed) has_edge;
    }

-- the numbered automaton has what its type holds
pub numbered_ba : (A : Automaton) → IsBa A → IsBa (renumbered_automaton A)
numbered_ba A w = renumbered_ba A (closed_within A w.some w.within) w

-- so has that of one without sets and marks, whose states needn't be reached
pub numbered_plain : (A : Automaton) → gba.IsGba A → A.sets ≡ 0 → IsPlain A → IsBa (renumbered_automaton A)
numbered_plain A w none plain = record {
  no_sets = none;
  some = r.some;
  few_states = r.few_states;
  few_edges = r.few_edges;
  within = gba_within (renumbered_automaton A) r;
  plain = renumbered_unmarked A plain;
  sets = All-weaker within_all (λ (s : State). All IsSetEdge s.edges) (λ s h. All-weaker within_each IsSetEdge (λ e k. k.rising) s.edges h) (renumbered_automaton A).states r.within;
  consistent = All-weaker within_all (λ (s : State). All is_consistent s.edges) (λ s h. All-weaker within_each is_consistent (λ e k. k.consistent) s.edges h) (renumbered_automaton A).states r.within;
  rising = renumbered_rising A;
  reached = listed_reached ◌==◌ Decides-eqb (targets_of (state_net A)) 0 (state_in ◌==◌ true (state_net A)) A.sets (length A.states) (reached_short A closed) (has_edge A closed);
}
  where
    closed : IsClosed A
    closed = closed_within A w.some (gba_within A w)

    r : gba.IsGba (renumbered_automaton A)
    r = renumbered_gba A closed w

    within_each : Edge → Type 0
    within_each = gba.IsEdgeWithin (length (renumbered_automaton A).states) A.sets

    within_all : State → Type 0
    within_all s = All within_each s.edges

    is_consistent : Edge → Type 0
    is_consistent e = is_contradictory e.cube ≡ false

pub numbered_gba : (A : Automaton) → gba.IsGba A → All (λ s. s.accepting ≡ true) A.states → gba.IsAcceptingGba (renumbered_automaton A)
numbered_gba A w a = record { inside = renumbered_gba A (closed_within A w.some (gba_within A w)) w; accepting = renumbered_accepting A a }
