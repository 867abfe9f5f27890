-- The automaton that was listed from the root is the automaton of the formula.
use Rattle.std.proofs.Common.{◌≡◌, ℕ, ◌<◌, ◌≤◌, Bool, true, false, not, List, length, map, refl, sym, ap, subst, arith, All}
use Rattle.std.specs.Prelude.{slice_index_or}
use Rattle.std.specs.List.{list_any}
use Rattle.ltl_spec.specs.Collections.Sets.{Has}
use Rattle.ltl_spec.specs.NormalForms.Normal.{Normal, Bottom}
use Rattle.ltl_spec.specs.NormalForms.NormalForm.{until_rows}
use Rattle.ltl_spec.specs.Transitions.Pairs.{RowSet}
use Rattle.ltl_spec.specs.Transitions.RowTransitions.{table_of, Transition, transitions, successors, with_marks, is_marked}
use Rattle.ltl_spec.specs.Automata.Automaton.{Automaton, State, Edge}
use Rattle.ltl_spec.specs.Automata.Listing.{listing, PassesLimits}
use Rattle.ltl_spec.specs.Automata.Generalized.{same_row_set, row_net, root_set, IsGeneralized, IsTooLarge}
use Rattle.ltl_spec.specs.Automata.Net.{targets_of, state_in, IsReachable}
use Rattle.ltl_spec.specs.Tools.Limits.{stated_limits}
use Rattle.ltl_spec.proofs.Collections.SetLaws.{filter_cases}
use Rattle.ltl_spec.proofs.Collections.ListLaws.{All-from_has, All-at_has, Has-at, places_cases}
use Rattle.ltl_spec.proofs.Collections.MemberLaws.{map_cases}
use Rattle.ltl_spec.proofs.Automata.NetLaws.{limits_alike, reachable_alike, state_edges}
use Rattle.ltl_spec.proofs.Automata.ListedStates.{any_state}
use Rattle.ltl_spec.proofs.Construction.GeneralizedBounds.{generalized_consistent}
use Rattle.ltl_spec.proofs.Construction.SetEdges.{generalized_sets}
use Rattle.ltl_automaton.specs.Bounds.{IsBounded}
use Rattle.ltl_automaton.specs.Net.{moves_of}
use Rattle.ltl_models.specs.GbaView.{IsEdgeWithin, IsAcceptingGba}
use Rattle.ltl_alt.specs.ReachView.{transition_move, net_of}

module _ (F : Normal) (keep : Bool) where
  abbrev moves : RowSet → List Transition
  moves e = transitions (table_of F) keep e

  -- the limits are the same
  same_limits : PassesLimits same_row_set (targets_of (moves_of (net_of F keep))) (root_set F keep) ≡ IsTooLarge F keep
  same_limits = limits_alike same_row_set (row_net F keep) (moves_of (net_of F keep)) transition_move (λ e. refl) (λ t. refl) (λ t n. refl) (λ e. refl) (root_set F keep)

  pub is_too_large : PassesLimits same_row_set (targets_of (moves_of (net_of F keep))) (root_set F keep) stated_limits.states stated_limits.edges → IsTooLarge F keep stated_limits.states stated_limits.edges
  is_too_large = subst (λ (P : ℕ → ℕ → Type 0). P stated_limits.states stated_limits.edges) same_limits

  pub is_not_too_large : ¬ (PassesLimits same_row_set (targets_of (moves_of (net_of F keep))) (root_set F keep) stated_limits.states stated_limits.edges) → ¬ (IsTooLarge F keep stated_limits.states stated_limits.edges)
  is_not_too_large = subst (λ (P : ℕ → ℕ → Type 0). ¬ (P stated_limits.states stated_limits.edges)) same_limits

  module _ (sets : ℕ) (s : sets ≡ length (until_rows F)) where
    -- marks are numbers of until rows
    marks_below : (e : RowSet) (t : Transition) → Has (moves e) t → (k : ℕ) → Has t.marks k → k < sets
    marks_below e t h = from_pair t (among keep t h)
      where
        among : (b : Bool) (u : Transition) → Has (transitions (table_of F) b e) u → Has (map (with_marks (table_of F)) (successors (table_of F) e)) u
        among true u m = m
        among false u m = (filter_cases (λ x. not (list_any _ (map (with_marks (table_of F)) (successors (table_of F) e)))) (map (with_marks (table_of F)) (successors (table_of F) e)) u m).0

        from_pair : (u : Transition) → Has (map (with_marks (table_of F)) (successors (table_of F) e)) u → (k : ℕ) → Has u.marks k → k < sets
        from_pair u m k q =
            let (p, i, d) = map_cases (with_marks (table_of F)) (successors (table_of F) e) u m in
            let l = (places_cases (is_marked (table_of F) p) 0 (until_rows F) Bottom k (subst (λ (x : Transition). Has x.marks k) d q)).1 in
            omega arith

    module _ (A : Automaton) (w : IsReachable same_row_set false (moves_of (net_of F keep)) (root_set F keep) sets A) where
      -- it is the automaton
      way : IsReachable same_row_set false (row_net F keep) (root_set F keep) sets A
      way = reachable_alike same_row_set (row_net F keep) (moves_of (net_of F keep)) transition_move (λ e. refl) (λ t. refl) (λ t n. refl) (λ e. refl) false (root_set F keep) sets A w

      pub is_generalized : IsGeneralized F keep A
      is_generalized = subst (λ n. IsReachable same_row_set false (row_net F keep) (root_set F keep) n A) s way

      abbrev keys : List RowSet
      keys = listing same_row_set (targets_of (row_net F keep)) (root_set F keep) way.0

      abbrev state : RowSet → State
      state = state_in same_row_set false (row_net F keep) keys

      marked : (x : State) → Has A.states x → (e : Edge) → Has x.edges e → All (λ k. k < A.sets) e.marks
      marked x h e m =
          let v = map_cases state keys x (subst (λ (B : Automaton). Has B.states x) way.2 h) in
          let (t, i, d) = state_edges same_row_set false (row_net F keep) keys v.0 e (subst (λ (y : State). Has y.edges e) v.2 m) in
          let below = All-from_has (λ k. k < sets) t.marks (marks_below v.0 t i) in
          subst (λ ks. All (λ k. k < A.sets) ks) (sym (ap (λ (f : Edge). f.marks) d)) (subst (λ n. All (λ k. k < n) t.marks) (sym (ap (λ (B : Automaton). B.sets) way.2)) below)

      pub is_gba : IsBounded stated_limits.states stated_limits.edges A → sets ≤ stated_limits.elementary_rows → IsAcceptingGba A
      is_gba b few =
          let sets_are = ap (λ (B : Automaton). B.sets) way.2 in
          let P : Edge → Type 0 = λ e. e.target < length A.states in
          let W : Edge → Type 0 = IsEdgeWithin (length A.states) A.sets in
          record {
            inside = record {
              some = b.some;
              few_states = b.few_states;
              few_edges = b.few_edges;
              few_sets = omega arith;
              within = λ k d l. let x = slice_index_or A.states k d in
                  let h = Has-at A.states k d l in
                  All-from_has W x.edges (λ e m.
                  let n = subst (λ (y : State). Has y.edges e) (any_state A.states k d l) m in
                  record {
                    target = All-at_has P x.edges (All-at_has (λ (y : State). All P y.edges) A.states b.within x h) e m;
                    marks = marked x h e m;
                    rising = generalized_sets F keep A is_generalized k e n;
                    consistent = generalized_consistent F keep A is_generalized k e n;
                  });
            };
            accepting = subst (λ (B : Automaton). All (λ (x : State). x.accepting ≡ true) B.states) (sym way.2)
                (All-from_has (λ (x : State). x.accepting ≡ true) (map state keys) (λ x h. ap (λ (y : State). y.accepting) (map_cases state keys x h).2));
          }
