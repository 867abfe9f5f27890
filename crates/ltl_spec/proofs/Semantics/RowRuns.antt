-- Runs of the generalized automaton as runs over sets of rows.
use lib.Pointwise.{pointwise_decides}
use Rattle.std.proofs.Common.{◌≡◌, ℕ, zero, suc, ◌<◌, ◌≤◌, Bool, false, IsTrue, inl, inr, List, [], map, length, sym, ◌∙◌, ap, subst, arith}
use Rattle.std.specs.Prelude.{slice_index_or}
use Rattle.std.specs.Bool.{Decides}
use Rattle.std.proofs.lemmas.Bool.Decides.{Decides-eqb}
use Rattle.std.proofs.lemmas.Bool.{cases_lt}
use Rattle.std.proofs.lemmas.List.{get_or_past, get_or-map}
use Rattle.ltl_spec.specs.Collections.Sets.{Has}
use Rattle.ltl_spec.specs.Collections.Lists.{place_of}
use Rattle.ltl_spec.specs.Transitions.Cubes.{allows}
use Rattle.ltl_spec.specs.Semantics.Word.{after_steps}
use Rattle.ltl_spec.specs.NormalForms.Normal.{Normal}
use Rattle.ltl_spec.specs.Transitions.Pairs.{RowSet}
use Rattle.ltl_spec.specs.Transitions.RowTransitions.{table_of, Transition, transitions}
use Rattle.ltl_spec.specs.Automata.Automaton.{Automaton, State, Edge, state_at}
use Rattle.ltl_spec.specs.Automata.Generalized.{same_row_set, row_net, root_set}
use Rattle.ltl_spec.specs.Automata.Net.{targets_of, edge_in, state_in}
use Rattle.ltl_spec.proofs.Semantics.Runs.{Run, IsClosed}
use Rattle.ltl_spec.proofs.Collections.ListLaws.{place_below, at_place, Has-at}
use Rattle.ltl_spec.proofs.Collections.MemberLaws.{Has-map, map_cases, map_length}
use Rattle.ltl_spec.proofs.Automata.ListedStates.{no_state}

-- the test of equality on sets of rows is right
pub same_row_set_Decides : (d e : RowSet) → Decides (same_row_set d e) (d ≡ e)
same_row_set_Decides = pointwise_decides Decides-eqb

-- the automaton of the sets of a list
abbrev pub automaton_over : Normal → Bool → List RowSet → Automaton
automaton_over core keep list = record { sets = length (table_of core).untils; states = map (state_in same_row_set false (row_net core keep) list) list }

module _ (core : Normal) (keep : Bool) where
  -- the list begins with the root's set and has the targets of all that it has
  pub record IsListing (list : List RowSet) : Type 0 where
    pub first : place_of same_row_set (root_set core keep) list ≡ 0
    pub root : Has list (root_set core keep)
    pub closed : (e d : RowSet) → Has list e → Has (targets_of (row_net core keep) e) d → Has list d

  -- the set of rows and the transition at each time
  pub record RowRun (truth : ℕ → ℕ → Bool) (step : ℕ → ℕ) : Type 0 where
    pub set : ℕ → RowSet
    pub transition : ℕ → Transition
    pub starts : set 0 ≡ root_set core keep
    pub among : (k : ℕ) → Has (transitions (table_of core) keep (set k)) (transition k)
    pub leads : (k : ℕ) → set (suc k) ≡ (transition k).targets
    pub allowed : (k : ℕ) → IsTrue (allows (truth (after_steps step k 0)) (transition k).cube)
    pub marks : (f k : ℕ) → f < length (table_of core).untils → (j : ℕ) × (k ≤ j) × Has (transition j).marks f

  module _ (list : List RowSet) where
    -- the set of rows of a state
    abbrev set_at : ℕ → RowSet
    set_at s = slice_index_or list s []

    -- the state at a number is that of its set of rows
    at_state : (s : ℕ) → s < length list → state_at (automaton_over core keep list) s ≡ state_in same_row_set false (row_net core keep) list (set_at s)
    at_state s l = get_or-map (state_in same_row_set false (row_net core keep) list) list s [] no_state l

    -- past the end there is no edge
    past_states : (s : ℕ) → length list ≤ s → state_at (automaton_over core keep list) s ≡ no_state
    past_states s l = get_or_past (map (state_in same_row_set false (row_net core keep) list) list) s no_state (subst (λ n. n ≤ s) (sym (map_length (state_in same_row_set false (row_net core keep) list) list)) l)

    -- every state is accepting
    pub over_accepting : (s : ℕ) → IsTrue (state_at (automaton_over core keep list) s).accepting
    over_accepting s = elim (cases_lt s (length list)) [
      | inl l ↦ ap (λ (q : State). q.accepting) (at_state s l)
      | inr l ↦ ap (λ (q : State). q.accepting) (past_states s l)
    ]

    -- an edge is that of a transition
    abbrev IsEdgeOf : ℕ → Edge → Type 0
    IsEdgeOf s e = (s < length list) × ((u : Transition) × Has (transitions (table_of core) keep (set_at s)) u × (e ≡ edge_in same_row_set (row_net core keep) list u))

    -- each edge of a state is that of a transition
    edge_cases : (s : ℕ) (e : Edge) → Has (state_at (automaton_over core keep list) s).edges e → IsEdgeOf s e
    edge_cases s e h = elim (cases_lt s (length list)) [
      | inl l ↦ (l, map_cases (edge_in same_row_set (row_net core keep) list) (transitions (table_of core) keep (set_at s)) e (subst (λ (q : State). Has q.edges e) (at_state s l) h))
      | inr l ↦ absurd (subst (λ (q : State). Has q.edges e) (past_states s l) h)
    ]

    -- and each transition has its edge
    Has-edge : (s : ℕ) (u : Transition) → s < length list → Has (transitions (table_of core) keep (set_at s)) u → Has (state_at (automaton_over core keep list) s).edges (edge_in same_row_set (row_net core keep) list u)
    Has-edge s u l h = subst (λ (q : State). Has q.edges (edge_in same_row_set (row_net core keep) list u)) (sym (at_state s l)) (Has-map (edge_in same_row_set (row_net core keep) list) (transitions (table_of core) keep (set_at s)) u h)

    module _ (w : IsListing list) where
      -- the targets of a transition are listed
      targets_listed : (e : RowSet) (u : Transition) → Has list e → Has (transitions (table_of core) keep e) u → Has list u.targets
      targets_listed e u h k = w.closed e u.targets h (Has-map (λ (t : Transition). t.targets) (transitions (table_of core) keep e) u k)

      -- a listed set has its place
      place_listed : (e : RowSet) → Has list e → place_of same_row_set e list < length list
      place_listed e h = place_below same_row_set same_row_set_Decides e list h

      -- which leads back to it
      set_of_place : (e : RowSet) → Has list e → set_at (place_of same_row_set e list) ≡ e
      set_of_place e h = at_place same_row_set same_row_set_Decides e list [] h

      -- the edges lead to states
      pub over_closed : IsClosed (automaton_over core keep list)
      over_closed = record {
        begins = (let l = place_listed (root_set core keep) w.root in let e = map_length (state_in same_row_set false (row_net core keep) list) list in omega arith);
        inside = λ s e h.
            let c = edge_cases s e h in
            let u = c.1.0 in
            let l = place_listed u.targets (targets_listed (set_at s) u (Has-at list s [] c.0) c.1.1) in
            subst (λ (x : Edge). x.target < length (map (state_in same_row_set false (row_net core keep) list) list)) (sym c.1.2)
            (subst (λ n. place_of same_row_set u.targets list < n) (sym (map_length (state_in same_row_set false (row_net core keep) list) list)) l);
      }

      -- a run goes through sets of rows
      pub row_run : (truth : ℕ → ℕ → Bool) (step : ℕ → ℕ) → Run (automaton_over core keep list) truth step → RowRun truth step
      row_run truth step r = record {
        set = λ k. set_at (r.state k);
        transition = λ k. (edge_cases (r.state k) (r.edge k) (r.edges k)).1.0;
        starts = ap set_at (r.starts ∙ sym w.first) ∙ set_of_place (root_set core keep) w.root;
        among = λ k. (edge_cases (r.state k) (r.edge k) (r.edges k)).1.1;
        leads = λ k.
            let c = edge_cases (r.state k) (r.edge k) (r.edges k) in
            let u = c.1.0 in
            ap set_at (r.leads k ∙ ap (λ (e : Edge). e.target) c.1.2) ∙ set_of_place u.targets (targets_listed (set_at (r.state k)) u (Has-at list (r.state k) [] c.0) c.1.1);
        allowed = λ k. subst (λ (e : Edge). IsTrue (allows (truth (after_steps step k 0)) e.cube)) (edge_cases (r.state k) (r.edge k) (r.edges k)).1.2 (r.allowed k);
        marks = λ f k l.
            let m = r.marks f k l in
            (m.0, m.1, subst (λ (e : Edge). Has e.marks f) (edge_cases (r.state m.0) (r.edge m.0) (r.edges m.0)).1.2 m.2);
      }

      module _ (truth : ℕ → ℕ → Bool) (step : ℕ → ℕ) (r : RowRun truth step) where
        -- the sets on the way are listed
        set_listed : (k : ℕ) → Has list (r.set k)
        set_listed zero = subst (Has list) (sym r.starts) w.root
        set_listed (suc k) = subst (Has list) (sym (r.leads k)) (targets_listed (r.set k) (r.transition k) (set_listed k) (r.among k))

        -- and sets of rows give a run
        pub run_of_rows : Run (automaton_over core keep list) truth step
        run_of_rows = record {
          state = λ k. place_of same_row_set (r.set k) list;
          edge = λ k. edge_in same_row_set (row_net core keep) list (r.transition k);
          starts = ap (λ e. place_of same_row_set e list) r.starts ∙ w.first;
          edges = λ k.
              Has-edge (place_of same_row_set (r.set k) list) (r.transition k) (place_listed (r.set k) (set_listed k))
              (subst (λ e. Has (transitions (table_of core) keep e) (r.transition k)) (sym (set_of_place (r.set k) (set_listed k))) (r.among k));
          leads = λ k. ap (λ e. place_of same_row_set e list) (r.leads k);
          allowed = r.allowed;
          accepts = λ k. (k, omega arith, over_accepting (place_of same_row_set (r.set k) list));
          marks = r.marks;
        }
