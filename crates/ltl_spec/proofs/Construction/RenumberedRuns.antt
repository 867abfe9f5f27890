-- Numbering the reached states anew keeps the accepting runs.
use Rattle.std.proofs.Common.{◌≡◌, ℕ, zero, suc, ◌<◌, ◌≤◌, Bool, true, IsTrue, List, length, sym, ◌∙◌, ap, subst}
use Rattle.std.specs.Prelude.{◌==◌, slice_index_or}
use Rattle.std.proofs.lemmas.Bool.Decides.{Decides-eqb}
use Rattle.std.proofs.lemmas.List.{length-map}
use Rattle.ltl_spec.specs.Collections.Sets.{Has, set_of}
use Rattle.ltl_spec.specs.Collections.Lists.{HasNoRepeats, place_of}
use Rattle.ltl_spec.specs.Automata.Listing.{listing, IsComplete}
use Rattle.ltl_spec.specs.Transitions.Cubes.{allows}
use Rattle.ltl_spec.specs.Semantics.Word.{after_steps}
use Rattle.ltl_spec.specs.Automata.Automaton.{Automaton, State, Edge, edge_cmp, state_at}
use Rattle.ltl_spec.specs.Construction.Merging.{retargeted_edge}
use Rattle.ltl_spec.specs.Automata.Net.{targets_of, state_in}
use Rattle.ltl_spec.specs.Construction.Renumbered.{state_net, renumbered_automaton}
use Rattle.ltl_spec.proofs.Semantics.Runs.{Run, IsClosed}
use Rattle.ltl_spec.proofs.Collections.Orders.{edge_linear}
use Rattle.ltl_spec.proofs.Collections.SetLaws.{set_of_cases, Has-set_of}
use Rattle.ltl_spec.proofs.Collections.ListLaws.{Has-at, place_below, at_place}
use Rattle.ltl_spec.proofs.Automata.ListingReach.{listed_start, listed_within, listed_all, listed_short, complete_is_all, HasNoRepeats-listed, place_start}
use Rattle.ltl_spec.proofs.Automata.ListedStates.{has_edge_below, run_below, state_at_place, state_of_place}
use Rattle.ltl_spec.proofs.Automata.NetLaws.{state_edges, Has-state_edge}
use Rattle.ltl_spec.proofs.Collections.MemberLaws.{Has-map, map_cases}

-- the states that are reached, in their new order
abbrev pub reached_states : Automaton → List ℕ
reached_states A = listing ◌==◌ (targets_of (state_net A)) 0 (length A.states)

-- the targets of a state are those of its edges
pub Has-state_targets : (A : Automaton) (s : ℕ) (e : Edge) → Has (state_at A s).edges e → Has (targets_of (state_net A) s) e.target
Has-state_targets A s e h = Has-map (λ (f : Edge). f.target) (set_of edge_cmp (state_at A s).edges) e (Has-set_of edge_linear (state_at A s).edges e h)

pub state_targets_cases : (A : Automaton) (s t : ℕ) → Has (targets_of (state_net A) s) t → (e : Edge) × Has (state_at A s).edges e × (t ≡ e.target)
state_targets_cases A s t h =
    let w = map_cases (λ (f : Edge). f.target) (set_of edge_cmp (state_at A s).edges) t h in
    (w.0, set_of_cases edge_linear (state_at A s).edges w.0 w.1, w.2)

module _ (A : Automaton) where
  -- a state's new number
  abbrev pub new_number : ℕ → ℕ
  new_number t = place_of ◌==◌ t (reached_states A)

  -- a number is that of a state
  abbrev pub IsState : ℕ → Type 0
  IsState s = s < length A.states

  -- the reached state with a new number
  abbrev pub old_number : ℕ → ℕ
  old_number s = slice_index_or (reached_states A) s 0

  module _ (closed : IsClosed A) where
    -- the targets of a state are states
    pub leads : (s t : ℕ) → IsState s → Has (targets_of (state_net A) s) t → IsState t
    leads s t l h = let w = state_targets_cases A s t h in subst (λ u. u < length A.states) (sym w.2) (closed.inside s w.0 w.1)

    -- the start is reached, and the targets of what is reached
    pub reached_start : Has (reached_states A) 0
    reached_start = listed_start ◌==◌ Decides-eqb (targets_of (state_net A)) 0 (length A.states)

    pub reached_target : (s : ℕ) (e : Edge) → Has (reached_states A) s → Has (state_at A s).edges e → Has (reached_states A) e.target
    reached_target s e h k =
        listed_all ◌==◌ Decides-eqb (targets_of (state_net A)) 0 IsState closed.begins leads (λ t. t) (length A.states) (λ t l. l) (λ t u l m e. e) s e.target h (Has-state_targets A s e k)

    -- each is a state, none stands twice, and there are no more than states
    pub reached_within : (s : ℕ) → Has (reached_states A) s → s < length A.states
    reached_within s h = listed_within ◌==◌ Decides-eqb (targets_of (state_net A)) 0 IsState closed.begins leads (length A.states) s h

    pub HasNoRepeats-reached : HasNoRepeats (reached_states A)
    HasNoRepeats-reached = HasNoRepeats-listed ◌==◌ Decides-eqb (targets_of (state_net A)) 0 (length A.states)

    pub reached_short : length (reached_states A) ≤ length A.states
    reached_short = listed_short ◌==◌ Decides-eqb (targets_of (state_net A)) 0 IsState closed.begins leads (λ t. t) (length A.states) (λ t l. l) (λ t u l m e. e) (length A.states)

    -- a complete listing lists these states
    pub complete_reached : (n : ℕ) → IsComplete ◌==◌ (targets_of (state_net A)) 0 n → listing ◌==◌ (targets_of (state_net A)) 0 n ≡ reached_states A
    complete_reached n c = complete_is_all ◌==◌ Decides-eqb (targets_of (state_net A)) 0 IsState closed.begins leads (λ t. t) (length A.states) (λ t l. l) (λ t u l m e. e) n c

    -- the state at the new number of a reached state
    renumbered_state : (s : ℕ) → Has (reached_states A) s → state_at (renumbered_automaton A) (new_number s) ≡ state_in ◌==◌ true (state_net A) (reached_states A) s
    renumbered_state s h = state_at_place ◌==◌ Decides-eqb (state_in ◌==◌ true (state_net A) (reached_states A)) (reached_states A) s h

    -- and the state with a new number is that of the reached state
    state_of_new : (s : ℕ) → s < length (reached_states A) → state_at (renumbered_automaton A) s ≡ state_in ◌==◌ true (state_net A) (reached_states A) (old_number s)
    state_of_new s l = state_of_place (state_in ◌==◌ true (state_net A) (reached_states A)) (reached_states A) s 0 l

    -- an edge keeps its literals and marks
    Has-retargeted : (s : ℕ) (e : Edge) → Has (state_at A s).edges e → Has (state_in ◌==◌ true (state_net A) (reached_states A) s).edges (retargeted_edge new_number e)
    Has-retargeted s e h = Has-state_edge ◌==◌ true (state_net A) (reached_states A) s e (Has-set_of edge_linear (state_at A s).edges e h)

    retargeted_cases : (s : ℕ) (f : Edge) → Has (state_in ◌==◌ true (state_net A) (reached_states A) s).edges f → (e : Edge) × Has (state_at A s).edges e × (f ≡ retargeted_edge new_number e)
    retargeted_cases s f h = let (e, k, q) = state_edges ◌==◌ true (state_net A) (reached_states A) s f h in (e, set_of_cases edge_linear (state_at A s).edges e k, q)

    -- the numbers stand for the reached states and no others
    pub old_of_new : (t : ℕ) → Has (reached_states A) t → old_number (new_number t) ≡ t
    old_of_new t h = at_place ◌==◌ Decides-eqb t (reached_states A) 0 h

    -- the start keeps its number
    new_start : new_number 0 ≡ 0
    new_start = place_start ◌==◌ Decides-eqb (targets_of (state_net A)) 0 (length A.states)

    -- the new numbers are those of the states
    new_below : (t : ℕ) → Has (reached_states A) t → new_number t < length (renumbered_automaton A).states
    new_below t h = subst (λ n. new_number t < n) (sym (length-map (reached_states A) (state_in ◌==◌ true (state_net A) (reached_states A)))) (place_below ◌==◌ Decides-eqb t (reached_states A) h)

    below_reached : (s : ℕ) → s < length (renumbered_automaton A).states → s < length (reached_states A)
    below_reached s l = subst (λ n. s < n) (length-map (reached_states A) (state_in ◌==◌ true (state_net A) (reached_states A))) l

    Has-old : (s : ℕ) → s < length (reached_states A) → Has (reached_states A) (old_number s)
    Has-old s l = Has-at (reached_states A) s 0 l

    -- the edge behind an edge between new numbers
    old_edge : (s : ℕ) (f : Edge) → s < length (reached_states A) → Has (state_at (renumbered_automaton A) s).edges f → (e : Edge) × Has (state_at A (old_number s)).edges e × (f ≡ retargeted_edge new_number e)
    old_edge s f l h = retargeted_cases (old_number s) f (subst (λ (t : State). Has t.edges f) (state_of_new s l) h)

    -- the renumbered automaton is closed
    pub renumbered_closed : IsClosed (renumbered_automaton A)
    renumbered_closed = record {
      begins = subst (λ n. n < length (renumbered_automaton A).states) new_start (new_below 0 reached_start);
      inside = λ s f h.
          let l = below_reached s (has_edge_below (renumbered_automaton A) s f h) in
          let w = old_edge s f l h in
          subst (λ (e : Edge). e.target < length (renumbered_automaton A).states) (sym w.2) (new_below w.0.target (reached_target (old_number s) w.0 (Has-old s l) w.1));
    }

    module _ (holds : ℕ → ℕ → Bool) (step : ℕ → ℕ) where
      -- a run stays among the reached states
      run_reached : (R : Run A holds step) (k : ℕ) → Has (reached_states A) (R.state k)
      run_reached R zero = subst (Has (reached_states A)) (sym R.starts) reached_start
      run_reached R (suc k) = subst (Has (reached_states A)) (sym (R.leads k)) (reached_target (R.state k) (R.edge k) (run_reached R k) (R.edges k))

      -- a run goes on with new numbers
      pub renumbered_run : Run A holds step → Run (renumbered_automaton A) holds step
      renumbered_run R = record {
        state = λ k. new_number (R.state k);
        edge = λ k. retargeted_edge new_number (R.edge k);
        starts = ap new_number R.starts ∙ new_start;
        edges = λ k. subst (λ (t : State). Has t.edges (retargeted_edge new_number (R.edge k))) (sym (renumbered_state (R.state k) (run_reached R k))) (Has-retargeted (R.state k) (R.edge k) (R.edges k));
        leads = λ k. ap new_number (R.leads k);
        allowed = R.allowed;
        accepts = λ k.
            let w = R.accepts k in
            (w.0, w.1, subst (λ (t : State). IsTrue t.accepting) (sym (renumbered_state (R.state w.0) (run_reached R w.0))) w.2);
        marks = R.marks;
      }

      -- and back
      pub run_of_renumbered : Run (renumbered_automaton A) holds step → Run A holds step
      run_of_renumbered R = record {
        state = λ k. old_number (R.state k);
        edge = λ k. (chosen k).0;
        starts = ap old_number (R.starts ∙ sym new_start) ∙ old_of_new 0 reached_start;
        edges = λ k. (chosen k).1;
        leads = λ k. ap old_number (R.leads k ∙ ap (λ (e : Edge). e.target) (chosen k).2) ∙ old_of_new (chosen k).0.target (reached_target (old_number (R.state k)) (chosen k).0 (Has-old (R.state k) (within k)) (chosen k).1);
        allowed = λ k. subst (λ (e : Edge). IsTrue (allows (holds (after_steps step k 0)) e.cube)) (chosen k).2 (R.allowed k);
        accepts = λ k.
            let w = R.accepts k in
            (w.0, w.1, subst (λ (t : State). IsTrue t.accepting) (state_of_new (R.state w.0) (within w.0)) w.2);
        marks = λ f k l.
            let w = R.marks f k l in
            (w.0, w.1, subst (λ (e : Edge). Has e.marks f) (chosen w.0).2 w.2);
      }
        where
          within : (k : ℕ) → R.state k < length (reached_states A)
          within k = below_reached (R.state k) (run_below R k)

          chosen : (k : ℕ) → (e : Edge) × Has (state_at A (old_number (R.state k))).edges e × (R.edge k ≡ retargeted_edge new_number e)
          chosen k = old_edge (R.state k) (R.edge k) (within k) (R.edges k)
