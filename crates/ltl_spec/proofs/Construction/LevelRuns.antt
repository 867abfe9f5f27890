-- Copies on levels keep the accepting runs.
use Rattle.std.proofs.Common.{◌≡◌, ℕ, zero, suc, ◌+◌, ◌*◌, ◌/◌, ◌%◌, ◌<◌, ◌≤◌, Bool, true, false, ◌&&◌, IsTrue, List, [], length, map, refl, sym, ◌∙◌, ap, subst, arith, suc-mul, mul-le-mul_right}
use Rattle.std.specs.Prelude.{◌==◌, slice_index_or}
use Rattle.std.specs.Bool.{Decides}
use Rattle.std.proofs.lemmas.Bool.Decides.{Decides-eqb}
use Rattle.std.proofs.lemmas.List.{length-map}
use Rattle.std.proofs.lemmas.Nat.{div-mul-add, mod-mul-add}
use Rattle.std.proofs.lemmas.Bool.{false≢true}
use Rattle.ltl_spec.specs.Collections.Sets.{Has}
use Rattle.ltl_spec.specs.Collections.Lists.{place_of}
use Rattle.ltl_spec.specs.Automata.Listing.{listing, IsComplete}
use Rattle.ltl_spec.specs.Transitions.Cubes.{allows}
use Rattle.ltl_spec.specs.Semantics.Word.{after_steps}
use Rattle.ltl_spec.specs.Automata.Automaton.{Automaton, State, Edge, state_at}
use Rattle.ltl_spec.specs.Construction.Levels.{next_level, LevelState, same_level_state, LevelEdge, level_edge, level_edges, level_net, level_automaton, start_copy}
use Rattle.ltl_spec.specs.Automata.Net.{targets_of, state_in}
use Rattle.ltl_spec.proofs.Semantics.Runs.{Run, IsClosed}
use Rattle.ltl_spec.proofs.Collections.Orders.{level_edge_linear, edge_linear}
use Rattle.ltl_spec.proofs.Collections.SetLaws.{set_of_cases, Has-set_of}
use Rattle.ltl_spec.proofs.Collections.ListLaws.{Has-at, place_below, at_place}
use Rattle.ltl_spec.proofs.Automata.ListingReach.{listed_start, listed_all, complete_is_all, place_start}
use Rattle.ltl_spec.proofs.Automata.ListedStates.{has_edge_below, run_below, state_at_place, state_of_place}
use Rattle.ltl_spec.proofs.Construction.ClimbLaws.{next_level_most, top_again, marks_again}
use Rattle.ltl_spec.proofs.Collections.MemberLaws.{Has-map, map_cases}

-- two copies are equal exactly if their states and levels are
pub same_level_state_Decides : (p q : LevelState) → Decides (same_level_state p q) (p ≡ q)
same_level_state_Decides p q = both (p.state == q.state) (p.level == q.level) (Decides-eqb p.state q.state) (Decides-eqb p.level q.level)
  where
    both : (a b : Bool) → Decides a (p.state ≡ q.state) → Decides b (p.level ≡ q.level) → Decides (a && b) (p ≡ q)
    both true true d e = ((λ t. let s = d.0 refl in let l = e.0 refl in λ i. record { state = s i; level = l i }), λ h. refl)
    both true false d e = ((λ t. absurd (false≢true t)), λ h. e.1 (ap (λ (c : LevelState). c.level) h))
    both false b d e = ((λ t. absurd (false≢true t)), λ h. d.1 (ap (λ (c : LevelState). c.state) h))

-- a copy's number among all copies of so many levels
abbrev pub copy_number : ℕ → LevelState → ℕ
copy_number sets p = p.state * (sets + 1) + p.level

-- pairs of numbers below n and below w have numbers below n * w
numbered_below : (a b n w : ℕ) → a < n → b < w → a * w + b < n * w
numbered_below a b n w l m =
    let k : suc a * w ≤ n * w = mul-le-mul_right w l in
    let e : suc a * w ≡ a * w + w = suc-mul a w in
    omega arith

-- so copies have numbers below the states times the levels
copy_number_below : (states sets : ℕ) (p : LevelState) → p.state < states → p.level ≤ sets → copy_number sets p < states * (sets + 1)
copy_number_below states sets p s l = numbered_below p.state p.level states (sets + 1) s (omega arith)

-- and different copies have different ones
level_numbers_differ : (sets : ℕ) (p q : LevelState) → p.level ≤ sets → q.level ≤ sets → copy_number sets p ≡ copy_number sets q → p ≡ q
level_numbers_differ sets p q l m e =
    let w = sets + 1 in
    let k : p.level < w = omega arith in
    let n : q.level < w = omega arith in
    let s = sym (div-mul-add p.state w p.level k) ∙ ap (λ x. x / w) e ∙ div-mul-add q.state w q.level n in
    let t = sym (mod-mul-add p.state w p.level k) ∙ ap (λ x. x % w) e ∙ mod-mul-add q.state w q.level n in
    λ i. record { state = s i; level = t i }

-- the edges of a copy are those of its state
Has-level_edges : (A : Automaton) (p : LevelState) (e : Edge) → Has (state_at A p.state).edges e → Has (level_edges A p) (level_edge A p.level e)
Has-level_edges A p e h = Has-set_of level_edge_linear (map (level_edge A p.level) (state_at A p.state).edges) (level_edge A p.level e) (Has-map (level_edge A p.level) (state_at A p.state).edges e h)

level_edges_cases : (A : Automaton) (p : LevelState) (c : LevelEdge) → Has (level_edges A p) c → (e : Edge) × Has (state_at A p.state).edges e × (c ≡ level_edge A p.level e)
level_edges_cases A p c h = map_cases (level_edge A p.level) (state_at A p.state).edges c (set_of_cases level_edge_linear (map (level_edge A p.level) (state_at A p.state).edges) c h)

-- the copies that are reached
abbrev pub copies : Automaton → List LevelState
copies A = listing same_level_state (targets_of (level_net A)) start_copy (length A.states * (A.sets + 1))

-- the targets of a copy are those of its edges
Has-level_targets : (A : Automaton) (p : LevelState) (e : Edge) → Has (state_at A p.state).edges e → Has (targets_of (level_net A) p) (level_edge A p.level e).copy
Has-level_targets A p e h = Has-map (λ (c : LevelEdge). c.copy) (level_edges A p) (level_edge A p.level e) (Has-level_edges A p e h)

level_targets_cases : (A : Automaton) (p q : LevelState) → Has (targets_of (level_net A) p) q → (e : Edge) × Has (state_at A p.state).edges e × (q ≡ (level_edge A p.level e).copy)
level_targets_cases A p q h =
    let w = map_cases (λ (c : LevelEdge). c.copy) (level_edges A p) q h in
    let v = level_edges_cases A p w.0 w.1 in
    (v.0, v.1, w.2 ∙ ap (λ (c : LevelEdge). c.copy) v.2)

-- the levels that these marks lead through, from level 0
abbrev pub level_after : ℕ → (ℕ → List ℕ) → ℕ → ℕ
level_after sets marks zero = 0
level_after sets marks (suc k) = next_level sets (marks k) (level_after sets marks k)

module _ (A : Automaton) where
  -- where a copy stands
  abbrev pub copy_place : LevelState → ℕ
  copy_place p = place_of same_level_state p (copies A)

  -- a copy of a state on one of the levels
  abbrev pub IsLevelState : LevelState → Type 0
  IsLevelState p = (p.state < length A.states) × (p.level ≤ A.sets)

  -- the copy at a place
  abbrev pub copy_at : ℕ → LevelState
  copy_at s = slice_index_or (copies A) s start_copy

  -- the edge to the place of a copy
  abbrev pub edge_to_level_state : LevelEdge → Edge
  edge_to_level_state e = record { cube = e.cube; target = copy_place e.copy; marks = [] }

  module _ (closed : IsClosed A) where
    -- the targets of a copy are copies
    leads : (p q : LevelState) → IsLevelState p → Has (targets_of (level_net A) p) q → IsLevelState q
    leads p q c h =
        let w = level_targets_cases A p q h in
        subst IsLevelState (sym w.2) (closed.inside p.state w.0 w.1, next_level_most A.sets p.level w.0.marks c.1)

    -- the start on the first level is reached, and with a copy the targets of its edges
    pub copies_start : Has (copies A) start_copy
    copies_start = listed_start same_level_state same_level_state_Decides (targets_of (level_net A)) start_copy (length A.states * (A.sets + 1))

    -- the start is a copy, and copies have their numbers
    begins : IsLevelState start_copy
    begins = (closed.begins, omega arith)

    copy_below : (p : LevelState) → IsLevelState p → copy_number A.sets p < length A.states * (A.sets + 1)
    copy_below p c = copy_number_below (length A.states) A.sets p c.0 c.1

    level_states_differ : (p q : LevelState) → IsLevelState p → IsLevelState q → copy_number A.sets p ≡ copy_number A.sets q → p ≡ q
    level_states_differ p q c d e = level_numbers_differ A.sets p q c.1 d.1 e

    pub copies_target : (p : LevelState) (e : Edge) → Has (copies A) p → Has (state_at A p.state).edges e → Has (copies A) (level_edge A p.level e).copy
    copies_target p e h k =
        listed_all same_level_state same_level_state_Decides (targets_of (level_net A)) start_copy IsLevelState begins leads (copy_number A.sets) (length A.states * (A.sets + 1)) copy_below level_states_differ
        p (level_edge A p.level e).copy h (Has-level_targets A p e k)

    -- a complete listing lists these copies
    pub complete_copies : (n : ℕ) → IsComplete same_level_state (targets_of (level_net A)) start_copy n → listing same_level_state (targets_of (level_net A)) start_copy n ≡ copies A
    complete_copies n c =
        complete_is_all same_level_state same_level_state_Decides (targets_of (level_net A)) start_copy IsLevelState begins leads (copy_number A.sets) (length A.states * (A.sets + 1)) copy_below level_states_differ n c

    -- the start stands first
    place_of_start : copy_place start_copy ≡ 0
    place_of_start = place_start same_level_state same_level_state_Decides (targets_of (level_net A)) start_copy (length A.states * (A.sets + 1))

    -- the state at the place of a copy
    state_of_copy : (p : LevelState) → Has (copies A) p → state_at (level_automaton A) (copy_place p) ≡ state_in same_level_state true (level_net A) (copies A) p
    state_of_copy p h = state_at_place same_level_state same_level_state_Decides (state_in same_level_state true (level_net A) (copies A)) (copies A) p h

    -- and at a place the state of the copy that stands there
    state_of_place_copy : (s : ℕ) → s < length (copies A) → state_at (level_automaton A) s ≡ state_in same_level_state true (level_net A) (copies A) (copy_at s)
    state_of_place_copy s l = state_of_place (state_in same_level_state true (level_net A) (copies A)) (copies A) s start_copy l

    -- each copy has a place among the states, and each state is that of a copy
    place_inside : (p : LevelState) → Has (copies A) p → copy_place p < length (level_automaton A).states
    place_inside p h = subst (λ n. copy_place p < n) (sym (length-map (copies A) (state_in same_level_state true (level_net A) (copies A)))) (place_below same_level_state same_level_state_Decides p (copies A) h)

    below_copies : (s : ℕ) → s < length (level_automaton A).states → s < length (copies A)
    below_copies s l = subst (λ n. s < n) (length-map (copies A) (state_in same_level_state true (level_net A) (copies A))) l

    Has-copy_at : (s : ℕ) → s < length (copies A) → Has (copies A) (copy_at s)
    Has-copy_at s l = Has-at (copies A) s start_copy l

    -- a copy's place leads back to it
    copy_at_place : (p : LevelState) → Has (copies A) p → copy_at (copy_place p) ≡ p
    copy_at_place p h = at_place same_level_state same_level_state_Decides p (copies A) start_copy h

    -- the edge behind an edge between copies
    edge_behind : (s : ℕ) (f : Edge) → s < length (copies A) → Has (state_at (level_automaton A) s).edges f → (e : Edge) × Has (state_at A (copy_at s).state).edges e × (f ≡ edge_to_level_state (level_edge A (copy_at s).level e))
    edge_behind s f l h =
        let w = map_cases edge_to_level_state (level_edges A (copy_at s)) f (set_of_cases edge_linear (map edge_to_level_state (level_edges A (copy_at s))) f (subst (λ (t : State). Has t.edges f) (state_of_place_copy s l) h)) in
        let v = level_edges_cases A (copy_at s) w.0 w.1 in
        (v.0, v.1, w.2 ∙ ap edge_to_level_state v.2)

    -- the automaton of the copies is closed
    pub levels_closed : IsClosed (level_automaton A)
    levels_closed = record {
      begins = subst (λ n. n < length (level_automaton A).states) place_of_start (place_inside start_copy copies_start);
      inside = λ s f h.
          let l = below_copies s (has_edge_below (level_automaton A) s f h) in
          let w = edge_behind s f l h in
          subst (λ (e : Edge). e.target < length (level_automaton A).states) (sym w.2) (place_inside (level_edge A (copy_at s).level w.0).copy (copies_target (copy_at s) w.0 (Has-copy_at s l) w.1));
    }

    module _ (holds : ℕ → ℕ → Bool) (step : ℕ → ℕ) where
      -- the copies along a run
      abbrev run_level : Run A holds step → ℕ → ℕ
      run_level R k = level_after A.sets (λ j. (R.edge j).marks) k

      abbrev run_copy : Run A holds step → ℕ → LevelState
      run_copy R k = record { state = R.state k; level = run_level R k }

      abbrev run_lift : Run A holds step → ℕ → LevelEdge
      run_lift R k = level_edge A (run_level R k) (R.edge k)

      -- each edge of the run leads to the next copy, so all of them are reached
      next_copy : (R : Run A holds step) (k : ℕ) → run_copy R (suc k) ≡ (run_lift R k).copy
      next_copy R k = let s = R.leads k in λ i. record { state = s i; level = next_level A.sets (R.edge k).marks (run_level R k) }

      run_copies : (R : Run A holds step) (k : ℕ) → Has (copies A) (run_copy R k)
      run_copies R zero = subst (λ s. Has (copies A) (record { state = s; level = 0 })) (sym R.starts) copies_start
      run_copies R (suc k) = subst (Has (copies A)) (sym (next_copy R k)) (copies_target (run_copy R k) (R.edge k) (run_copies R k) (R.edges k))

      -- the last level is accepting
      at_top : (level : ℕ) → level ≡ A.sets → IsTrue (level == A.sets)
      at_top level e = (Decides-eqb level A.sets).1 e

      -- a run goes on in the copies
      pub levels_run : Run A holds step → Run (level_automaton A) holds step
      levels_run R = record {
        state = λ k. copy_place (run_copy R k);
        edge = λ k. edge_to_level_state (run_lift R k);
        starts = ap (λ s. copy_place (record { state = s; level = 0 })) R.starts ∙ place_of_start;
        edges = λ k.
            subst (λ (t : State). Has t.edges (edge_to_level_state (run_lift R k))) (sym (state_of_copy (run_copy R k) (run_copies R k)))
            (Has-set_of edge_linear (map edge_to_level_state (level_edges A (run_copy R k))) (edge_to_level_state (run_lift R k)) (Has-map edge_to_level_state (level_edges A (run_copy R k)) (run_lift R k) (Has-level_edges A (run_copy R k) (R.edge k) (R.edges k))));
        leads = λ k. ap copy_place (next_copy R k);
        allowed = R.allowed;
        accepts = λ k.
            let w = top_again A.sets (run_level R) (λ j. (R.edge j).marks) (λ j. refl) refl R.marks k in
            (w.0, w.1, subst (λ (t : State). IsTrue t.accepting) (sym (state_of_copy (run_copy R w.0) (run_copies R w.0))) (at_top (run_level R w.0) w.2));
        marks = λ f k l. absurd (omega arith);
      }

      -- and back, where each state was accepting
      pub run_of_levels : ((s : ℕ) → s < length A.states → IsTrue (state_at A s).accepting) → Run (level_automaton A) holds step → Run A holds step
      run_of_levels accepting R = record {
        state = λ k. (copy k).state;
        edge = λ k. (chosen k).0;
        starts = ap (λ s. (copy_at s).state) (R.starts ∙ sym place_of_start) ∙ ap (λ (p : LevelState). p.state) (copy_at_place start_copy copies_start);
        edges = λ k. (chosen k).1;
        leads = λ k. ap (λ (p : LevelState). p.state) (next k);
        allowed = λ k. subst (λ (e : Edge). IsTrue (allows (holds (after_steps step k 0)) e.cube)) (chosen k).2 (R.allowed k);
        accepts = λ k. (k, omega arith, accepting (copy k).state (has_edge_below A (copy k).state (chosen k).0 (chosen k).1));
        marks = marks_again A.sets (λ k. (copy k).level) (λ k. (chosen k).0.marks) (λ k. ap (λ (p : LevelState). p.level) (next k)) tops;
      }
        where
          within : (k : ℕ) → R.state k < length (copies A)
          within k = below_copies (R.state k) (run_below R k)

          copy : ℕ → LevelState
          copy k = copy_at (R.state k)

          chosen : (k : ℕ) → (e : Edge) × Has (state_at A (copy k).state).edges e × (R.edge k ≡ edge_to_level_state (level_edge A (copy k).level e))
          chosen k = edge_behind (R.state k) (R.edge k) (within k) (R.edges k)

          next : (k : ℕ) → copy (suc k) ≡ (level_edge A (copy k).level (chosen k).0).copy
          next k =
              ap copy_at (R.leads k ∙ ap (λ (e : Edge). e.target) (chosen k).2)
              ∙ copy_at_place (level_edge A (copy k).level (chosen k).0).copy (copies_target (copy k) (chosen k).0 (Has-copy_at (R.state k) (within k)) (chosen k).1)

          tops : (k : ℕ) → (j : ℕ) × (k ≤ j) × ((copy j).level ≡ A.sets)
          tops k =
              let w = R.accepts k in
              (w.0, w.1, (Decides-eqb (copy w.0).level A.sets).0 (subst (λ (t : State). IsTrue t.accepting) (state_of_place_copy (R.state w.0) (within w.0)) w.2))
