-- Numbered states get their labels: what bounds them and what can be numbered is the same with labels as with their numbers.
use Rattle.std.proofs.Common.{◌≡◌, ℕ, ◌<◌, ◌≤◌, true, inl, inr, List, [], ◌∷◌, length, map, refl, sym, ◌∙◌, ap, subst}
use Rattle.std.specs.Prelude.{◌==◌, All}
use Rattle.std.specs.List.{AllByRecursion}
use Rattle.std.specs.declared.cmp.Ordering.TheVariants.{Less}
use Rattle.ltl_spec.specs.Collections.Sets.{Has, IsRising, set_of}
use Rattle.ltl_spec.specs.Collections.Lists.{place_of}
use Rattle.ltl_spec.specs.Automata.Automaton.{Automaton, State, Edge, edge_cmp, state_at}
use Rattle.ltl_spec.specs.Automata.Listing.{listing}
use Rattle.ltl_spec.specs.Automata.Net.{targets_of, state_in}
use Rattle.ltl_spec.specs.Construction.Renumbered.{state_net, renumbered_automaton}
use Rattle.ltl_spec.specs.Tools.Limits.{stated_limits}
use Rattle.ltl_spec.proofs.Collections.FoundLaws.{map_same, map_equal}
use Rattle.ltl_spec.proofs.Collections.ListLaws.{All-at_has, All-from_has}
use Rattle.ltl_spec.proofs.Collections.MemberLaws.{Has-map, map_cases}
use Rattle.ltl_automaton.specs.Bounds.{IsBounded}
use Rattle.ltl_models.proofs.Within.{edges_within}
use Rattle.ltl_automaton.specs.Labels.{Tables, AreTables, labelled_edge, labelled_state, labelled, IsCoded, AreCoded}
use Rattle.ltl_passes.specs.Numbered.{IsNumberable}
use Rattle.ltl_passes.specs.Partition.{IsWithinStates, retargeted_list}
use Rattle.ltl_passes.proofs.LabelLaws.{labelled_cmp, labelled_set, labelled_retargeted, coded_retargeted, coded_set}
use Rattle.ltl_automaton.proofs.TableLaws.{state_at_labelled, labelled_length}
use Rattle.ltl_passes.proofs.LabelledReach.{labelled_sum}

-- edges lead to states if they do with their labels
pub within_coded : (t : Tables) (A : Automaton) → IsWithinStates (labelled t A).states → IsWithinStates A.states
within_coded t A w = All-from_has (λ (s : State). All Leads s.edges) A.states (λ s h. All-from_has Leads s.edges (λ e k. inside s h e k))
  where
    Leads : Edge → Type 0
    Leads e = e.target < length A.states

    LeadsLabelled : Edge → Type 0
    LeadsLabelled e = e.target < length (labelled t A).states

    inside : (s : State) → Has A.states s → (e : Edge) → Has s.edges e → Leads e
    inside s h e k =
        let row = All-at_has (λ (r : State). All LeadsLabelled r.edges) (labelled t A).states w (labelled_state t s) (Has-map (labelled_state t) A.states s h) in
        subst (λ n. e.target < n) (labelled_length t A) (All-at_has LeadsLabelled (map (labelled_edge t) s.edges) row (labelled_edge t e) (Has-map (labelled_edge t) s.edges e k))

-- and they do with their labels if they lead to states
pub within_labelled : (t : Tables) (A : Automaton) → IsWithinStates A.states → IsWithinStates (labelled t A).states
within_labelled t A w =
    let Leads : Edge → Type 0 = λ e. e.target < length (labelled t A).states in
    All-from_has (λ (s : State). All Leads s.edges) (labelled t A).states (λ s h. All-from_has Leads s.edges (λ e k.
    let (r, m, p) = map_cases (labelled_state t) A.states s h in
    let (f, l, q) = map_cases (labelled_edge t) r.edges e (subst (λ (x : State). Has x.edges e) p k) in
    let row = All-at_has (λ (x : State). All (λ (y : Edge). y.target < length A.states) x.edges) A.states w r m in
    let below = All-at_has (λ (y : Edge). y.target < length A.states) r.edges row f l in
    subst Leads (sym q) (subst (λ n. f.target < n) (sym (labelled_length t A)) below)))

-- an automaton has the same bounds with its labels
pub bounded_labelled : (t : Tables) (A : Automaton) (most_states most_edges : ℕ) → IsBounded most_states most_edges A → IsBounded most_states most_edges (labelled t A)
bounded_labelled t A m n b = record {
  some = subst (λ k. 0 < k) (sym (labelled_length t A)) b.some;
  few_states = subst (λ k. k ≤ m) (sym (labelled_length t A)) b.few_states;
  few_edges = subst (λ k. k ≤ n) (sym (labelled_sum t A)) b.few_edges;
  within = within_labelled t A b.within;
}

pub bounded_coded : (t : Tables) (A : Automaton) (most_states most_edges : ℕ) → IsBounded most_states most_edges (labelled t A) → IsBounded most_states most_edges A
bounded_coded t A m n b = record {
  some = subst (λ k. 0 < k) (labelled_length t A) b.some;
  few_states = subst (λ k. k ≤ m) (labelled_length t A) b.few_states;
  few_edges = subst (λ k. k ≤ n) (labelled_sum t A) b.few_edges;
  within = within_coded t A b.within;
}

module _ (t : Tables) (a : AreTables t) where
  below_coded : (e : Edge) (es : List Edge) → IsCoded t e → ((f : Edge) → Has es f → IsCoded t f) → AllByRecursion (λ f. edge_cmp (labelled_edge t e) f ≡ Less) (map (labelled_edge t) es) → AllByRecursion (λ f. edge_cmp e f ≡ Less) es
  below_coded e [] c d r = tt
  below_coded e (f ∷ fs) c d r = (sym (labelled_cmp t a e f c (d f (inl refl))) ∙ r.0, below_coded e fs c (λ g h. d g (inr h)) r.1)

  rising_by : (es : List Edge) → ((f : Edge) → Has es f → IsCoded t f) → IsRising edge_cmp (map (labelled_edge t) es) → IsRising edge_cmp es
  rising_by [] d r = tt
  rising_by (e ∷ es) d r = (below_coded e es (d e (inl refl)) (λ g h. d g (inr h)) r.0, rising_by es (λ g h. d g (inr h)) r.1)

  -- edges are strictly sorted if they are with their labels
  pub rising_coded : (es : List Edge) → All (IsCoded t) es → IsRising edge_cmp (map (labelled_edge t) es) → IsRising edge_cmp es
  rising_coded es c r = rising_by es (All-at_has (IsCoded t) es c) r

  module _ (A : Automaton) (c : AreCoded t A) where
    -- what can be numbered with its labels can be without
    pub numberable_coded : IsNumberable (labelled t A) → IsNumberable A
    numberable_coded w = record {
      bounded = bounded_coded t A stated_limits.states stated_limits.edges w.bounded;
      rising = All-from_has (λ (s : State). IsRising edge_cmp s.edges) A.states (λ s h.
          let row = All-at_has (λ (r : State). IsRising edge_cmp r.edges) (labelled t A).states w.rising (labelled_state t s) (Has-map (labelled_state t) A.states s h) in
          rising_coded s.edges (All-at_has (λ (r : State). All (IsCoded t) r.edges) A.states c s h) row);
    }

    -- the edges of a state, as a set
    abbrev edges_at : ℕ → List Edge
    edges_at s = set_of edge_cmp (state_at A s).edges

    coded_at : (s : ℕ) → All (IsCoded t) (edges_at s)
    coded_at s = coded_set t (state_at A s).edges (edges_within A (IsCoded t) s c)

    moves_at : (s : ℕ) → (state_net (labelled t A)).moves s ≡ map (labelled_edge t) (edges_at s)
    moves_at s = ap (λ (r : State). set_of edge_cmp r.edges) (state_at_labelled t A s) ∙ sym (labelled_set t a (state_at A s).edges (edges_within A (IsCoded t) s c))

    targets_alike : targets_of (state_net (labelled t A)) ≡ targets_of (state_net A)
    targets_alike = λ i s. (ap (map (λ (e : Edge). e.target)) (moves_at s) ∙ map_same (labelled_edge t) (λ (e : Edge). e.target) (edges_at s)) i

    -- the state of a number, where the numbers stand in this list
    state_alike : (keys : List ℕ) (s : ℕ) → labelled_state t (state_in ◌==◌ true (state_net A) keys s) ≡ state_in ◌==◌ true (state_net (labelled t A)) keys s
    state_alike keys s =
        let place : ℕ → ℕ = λ x. place_of ◌==◌ x keys in
        let edges = labelled_retargeted t a place (edges_at s) (coded_at s) ∙ ap (retargeted_list place) (sym (moves_at s)) in
        let accepting = ap (λ (r : State). r.accepting) (sym (state_at_labelled t A s)) in
        λ i. let r : State = record { accepting = accepting i; edges = edges i } in r

    abbrev reached : List ℕ
    reached = listing ◌==◌ (targets_of (state_net A)) 0 (length A.states)

    -- numbering states and giving them their labels may change places
    pub labelled_renumbered : labelled t (renumbered_automaton A) ≡ renumbered_automaton (labelled t A)
    labelled_renumbered = λ i. let X : Automaton = record { sets = A.sets; states = states i } in X
      where
        keys : listing ◌==◌ (targets_of (state_net (labelled t A))) 0 (length (labelled t A).states) ≡ reached
        keys = λ i. listing ◌==◌ (targets_alike i) 0 (labelled_length t A i)

        states : map (labelled_state t) (renumbered_automaton A).states ≡ (renumbered_automaton (labelled t A)).states
        states =
            map_same (state_in ◌==◌ true (state_net A) reached) (labelled_state t) reached
            ∙ map_equal (λ s. labelled_state t (state_in ◌==◌ true (state_net A) reached s)) (state_in ◌==◌ true (state_net (labelled t A)) reached) reached (λ s _. state_alike reached s)
            ∙ ap (λ ks. map (state_in ◌==◌ true (state_net (labelled t A)) ks) ks) (sym keys)

    -- and leaves them numbers of the tables
    pub coded_renumbered : AreCoded t (renumbered_automaton A)
    coded_renumbered =
        let P : State → Type 0 = λ s. All (IsCoded t) s.edges in
        All-from_has P (renumbered_automaton A).states (λ s h.
        let (k, l, e) = map_cases (state_in ◌==◌ true (state_net A) reached) reached s h in
        subst P (sym e) (coded_retargeted t (λ x. place_of ◌==◌ x reached) (edges_at k) (coded_at k)))
