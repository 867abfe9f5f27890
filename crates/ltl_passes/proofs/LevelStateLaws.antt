-- The copies that were listed are those of the definitions.
use Rattle.std.proofs.Common.{◌≡◌, ℕ, ◌<◌, ◌≤◌, true, false, List, [], ◌∷◌, ◌++◌, length, map, refl, sym, ◌∙◌, ap, subst, arith}
use Rattle.std.specs.Prelude.{slice_index_or, All}
use Rattle.std.specs.Ordering.{nat_cmp}
use Rattle.std.proofs.lemmas.List.{get_or_past}
use Rattle.std.proofs.lemmas.Simd.{map-map}
use Rattle.std.proofs.lemmas.List.Elements.{All-map}
use Rattle.ltl_spec.specs.Collections.Sets.{Has, IsRising, set_of}
use Rattle.ltl_spec.specs.Collections.Lists.{place_of}
use Rattle.ltl_spec.specs.Automata.Automaton.{Automaton, State, Edge, edge_cmp, state_at}
use Rattle.ltl_spec.specs.Automata.Listing.{listing, PassesLimits}
use Rattle.ltl_spec.specs.Automata.Net.{Net, targets_of, edge_in, state_in, IsReachable}
use Rattle.ltl_spec.specs.Construction.Levels as levels
use Rattle.ltl_spec.specs.Construction.Levels.{LevelState, LevelEdge, same_level_state, start_copy, level_edge, level_edge_cmp, level_edges, level_automaton, HasTooManyLevelStates}
use Rattle.ltl_spec.specs.Construction.ImpliedEdges.{IsSetEdge}
use Rattle.ltl_spec.specs.Transitions.Cubes.{Cube, literal_cmp, is_contradictory}
use Rattle.ltl_spec.specs.Tools.Limits.{stated_limits}
use Rattle.ltl_spec.proofs.Collections.Orders.{edge_linear, level_edge_linear}
use Rattle.ltl_spec.proofs.Collections.SetLaws.{IsRising-set_of, set_of_cases}
use Rattle.ltl_spec.proofs.Collections.MemberLaws.{map_cases}
use Rattle.ltl_spec.proofs.Collections.ListLaws.{All-from_has}
use Rattle.ltl_spec.proofs.Automata.NetLaws.{limits_alike, reachable_alike, state_edges, Has-state_edge}
use Rattle.ltl_spec.proofs.Construction.LevelRuns.{same_level_state_Decides, complete_copies}
use Rattle.ltl_spec.proofs.Semantics.Runs.{IsClosed}
use Rattle.ltl_automaton.specs.Bounds.{IsBounded}
use Rattle.ltl_automaton.specs.Net.{moves_of}
use Rattle.ltl_automaton.proofs.EdgeLaws.{map_pushed}
use Rattle.ltl_models.specs.GbaView as gba
use Rattle.ltl_models.specs.BaView.{IsBa, IsPlain, IsReached}
use Rattle.ltl_automaton.specs.CodedEdges.{coded_edge_of}
use Rattle.ltl_passes.specs.Degeneralize.{successor_of, level_edge_of, level_net, coded_level_edge, coded_successor, coded_level_net, level_move}
use Rattle.ltl_automaton.specs.Labels.{Tables, AreTables, AreCoded, labelled}
use Rattle.ltl_automaton.specs.declared.coded_edge.CodedEdge as coded
use Rattle.ltl_passes.specs.declared.degeneralize.LevelEdge as code
use Rattle.ltl_passes.proofs.LabelledPasses.{bounded_labelled}
use Rattle.ltl_passes.proofs.LabelledReach.{levels_labelled, levels_limits}
use Rattle.ltl_passes.proofs.MergedLaws.{gba_within, of_all}
use Rattle.ltl_passes.proofs.ReachedLaws.{listed_reached}
use Rattle.ltl_passes.proofs.TargetLaws.{closed_within}

-- one more edge of a copy
pub coded_next : (t : Tables) (sets level : ℕ) (made more_made : List code.LevelEdge) (x : code.LevelEdge) (taken more_taken : List coded.CodedEdge) (e : coded.CodedEdge)
    → map level_edge_of made ≡ map (coded_level_edge t sets level) (map coded_edge_of taken) → level_edge_of x ≡ coded_level_edge t sets level (coded_edge_of e) → more_made ≡ made ++ x ∷ [] → more_taken ≡ taken ++ e ∷ []
    → map level_edge_of more_made ≡ map (coded_level_edge t sets level) (map coded_edge_of more_taken)
coded_next t sets level made more_made x taken more_taken e w p q r =
    map_pushed level_edge_of made more_made x q ∙ ap (λ l. l ++ level_edge_of x ∷ []) w ∙ ap (λ y. map (coded_level_edge t sets level) (map coded_edge_of taken) ++ y ∷ []) p
    ∙ sym (map_pushed (coded_level_edge t sets level) (map coded_edge_of taken) (map coded_edge_of more_taken) (coded_edge_of e) (map_pushed coded_edge_of taken more_taken e r))

-- a state past the end has no copies
pub no_successors_past : (t : Tables) (A : Automaton) (p : LevelState) → length A.states ≤ p.state → [] ≡ (coded_level_net t A).successors p
no_successors_past t A p l =
    ap (λ (s : State). map coded_successor (set_of level_edge_cmp (map (coded_level_edge t A.sets p.level) s.edges))) (sym (get_or_past A.states p.state (record { accepting = true; edges = [] }) l))

-- the edges of a copy, as the code makes them
pub made_successors : (t : Tables) (A : Automaton) (sets : ℕ) (p : LevelState) (edges : List coded.CodedEdge) (xs : List code.LevelEdge) → sets ≡ A.sets → map coded_edge_of edges ≡ (state_at A p.state).edges
    → map level_edge_of xs ≡ set_of level_edge_cmp (map (coded_level_edge t sets p.level) (map coded_edge_of edges)) → map level_move xs ≡ (coded_level_net t A).successors p
made_successors t A sets p edges xs n e h = sym (map-map coded_successor level_edge_of xs) ∙ ap (map coded_successor) h ∙ (λ i. map coded_successor (set_of level_edge_cmp (map (coded_level_edge t (n i) p.level) (e i))))

module _ (A : Automaton) where
  abbrev net : Net LevelState LevelEdge
  net = levels.level_net A

  abbrev copy_state : List LevelState → LevelState → State
  copy_state = state_in same_level_state true net

  -- the limits are the same
  same_limits : PassesLimits same_level_state (targets_of (moves_of (level_net A))) start_copy ≡ HasTooManyLevelStates A
  same_limits = limits_alike same_level_state net (moves_of (level_net A)) successor_of (λ p. refl) (λ e. refl) (λ e n. refl) (λ p. refl) start_copy

  is_too_large : PassesLimits same_level_state (targets_of (moves_of (level_net A))) start_copy stated_limits.states stated_limits.edges → HasTooManyLevelStates A stated_limits.states stated_limits.edges
  is_too_large = subst (λ (P : ℕ → ℕ → Type 0). P stated_limits.states stated_limits.edges) same_limits

  is_not_too_large : ¬ (PassesLimits same_level_state (targets_of (moves_of (level_net A))) start_copy stated_limits.states stated_limits.edges) → ¬ (HasTooManyLevelStates A stated_limits.states stated_limits.edges)
  is_not_too_large = subst (λ (P : ℕ → ℕ → Type 0). ¬ (P stated_limits.states stated_limits.edges)) same_limits

  module _ (inside : gba.IsGba A) (B : Automaton) (w : IsReachable same_level_state true (moves_of (level_net A)) start_copy 0 B) where
    closed : IsClosed A
    closed = closed_within A inside.some (gba_within A inside)

    way : IsReachable same_level_state true net start_copy 0 B
    way = reachable_alike same_level_state net (moves_of (level_net A)) successor_of (λ p. refl) (λ e. refl) (λ e n. refl) (λ p. refl) true start_copy 0 B w

    abbrev n : ℕ
    n = way.0

    abbrev listed : List LevelState
    listed = listing same_level_state (targets_of net) start_copy n

    is_leveled : B ≡ level_automaton A
    is_leveled = way.2 ∙ ap (λ ks. let X : Automaton = record { sets = 0; states = map (copy_state ks) ks } in X) (complete_copies A closed n way.1)

    -- what holds of each state
    each : (P : State → Type 0) → ((p : LevelState) → P (copy_state listed p)) → All P B.states
    each P h = subst (λ (X : Automaton). All P X.states) (sym way.2) (All-map P (copy_state listed) listed (λ k d m. h (slice_index_or listed k d)))

    has_edge : (ks : List LevelState) (p q : LevelState) → Has (targets_of net p) q → (e : Edge) × Has (copy_state ks p).edges e × (e.target ≡ place_of same_level_state q ks)
    has_edge ks p q h =
        let v = map_cases (λ (e : LevelEdge). e.copy) (level_edges A p) q h in
        (edge_in same_level_state net ks v.0, Has-state_edge same_level_state true net ks p v.0 v.1, ap (λ c. place_of same_level_state c ks) (sym v.2))

    -- an edge of a copy has no mark, and the literals of an edge of the automaton
    unmarked : (p : LevelState) (e : Edge) → Has (copy_state listed p).edges e → e.marks ≡ []
    unmarked p e h = ap (λ (f : Edge). f.marks) (state_edges same_level_state true net listed p e h).2

    copied : (P : Cube → Type 0) → ((s : ℕ) (e : Edge) → Has (state_at A s).edges e → P e.cube) → (p : LevelState) (e : Edge) → Has (copy_state listed p).edges e → P e.cube
    copied P all p e h =
        let (f, m, d) = state_edges same_level_state true net listed p e h in
        let (x, k, q) = map_cases (level_edge A p.level) (state_at A p.state).edges f (set_of_cases level_edge_linear (map (level_edge A p.level) (state_at A p.state).edges) f m) in
        subst P (sym (ap (λ (y : Edge). y.cube) d ∙ ap (λ (y : LevelEdge). y.cube) q)) (all p.state x k)

    edge : (s : ℕ) (e : Edge) → Has (state_at A s).edges e → gba.IsEdgeWithin (length A.states) A.sets e
    edge = of_all A (gba.IsEdgeWithin (length A.states) A.sets) inside.within

    is_plain : IsPlain B
    is_plain = each (λ s. All (λ e. e.marks ≡ []) s.edges) (λ p. All-from_has (λ (e : Edge). e.marks ≡ []) (copy_state listed p).edges (unmarked p))

    is_ba : IsBounded stated_limits.states stated_limits.edges B → IsBa B
    is_ba b = record {
      no_sets = ap (λ (X : Automaton). X.sets) way.2;
      some = b.some;
      few_states = b.few_states;
      few_edges = b.few_edges;
      within = b.within;
      plain = is_plain;
      sets = each (λ s. All IsSetEdge s.edges) (λ p. All-from_has IsSetEdge (copy_state listed p).edges (λ x h.
          record { cube = copied (IsRising literal_cmp) (λ s e m. (edge s e m).rising.cube) p x h; marks = subst (IsRising nat_cmp) (sym (unmarked p x h)) tt }));
      consistent = each (λ s. All (λ e. is_contradictory e.cube ≡ false) s.edges) (λ p.
          All-from_has (λ (e : Edge). is_contradictory e.cube ≡ false) (copy_state listed p).edges (copied (λ c. is_contradictory c ≡ false) (λ s e m. (edge s e m).consistent) p));
      rising = each (λ s. IsRising edge_cmp s.edges) (λ p. IsRising-set_of edge_linear (map (edge_in same_level_state net listed) (level_edges A p)));
      reached = subst (λ (X : Automaton). (s : ℕ) → s < length X.states → IsReached X s) (sym way.2)
          (listed_reached same_level_state same_level_state_Decides (targets_of net) start_copy copy_state 0 n (let e = way.1 in omega arith) has_edge);
    }

-- the copies that were listed with numbers for labels are, with the labels, those of the automaton with the labels
module _ (t : Tables) (a : AreTables t) (A : Automaton) (c : AreCoded t A) where
  pub coded_too_large : PassesLimits same_level_state (targets_of (moves_of (coded_level_net t A))) start_copy stated_limits.states stated_limits.edges → HasTooManyLevelStates (labelled t A) stated_limits.states stated_limits.edges
  coded_too_large p = is_too_large (labelled t A) (subst (λ (P : ℕ → ℕ → Type 0). P stated_limits.states stated_limits.edges) (sym (levels_limits t a A c)) p)

  pub coded_not_too_large : ¬ (PassesLimits same_level_state (targets_of (moves_of (coded_level_net t A))) start_copy stated_limits.states stated_limits.edges) → ¬ (HasTooManyLevelStates (labelled t A) stated_limits.states stated_limits.edges)
  coded_not_too_large n = is_not_too_large (labelled t A) (subst (λ (P : ℕ → ℕ → Type 0). ¬ (P stated_limits.states stated_limits.edges)) (sym (levels_limits t a A c)) n)

  module _ (inside : gba.IsGba (labelled t A)) (B : Automaton) (w : IsReachable same_level_state true (moves_of (coded_level_net t A)) start_copy 0 B) where
    pub coded_leveled : labelled t B ≡ level_automaton (labelled t A)
    coded_leveled = is_leveled (labelled t A) inside (labelled t B) (levels_labelled t a A c B w)

    pub coded_ba : IsBounded stated_limits.states stated_limits.edges B → IsBa (labelled t B)
    coded_ba b = is_ba (labelled t A) inside (labelled t B) (levels_labelled t a A c B w) (bounded_labelled t B stated_limits.states stated_limits.edges b)
