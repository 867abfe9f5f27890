-- The states that a complete listing lists are reached.
use Rattle.std.proofs.Common.{◌≡◌, ℕ, ◌<◌, ◌≤◌, Bool, List, length, map, sym, subst}
use Rattle.std.specs.Prelude.{slice_index_or}
use Rattle.std.specs.Bool.{Decides}
use Rattle.std.proofs.lemmas.List.{length-map}
use Rattle.ltl_spec.specs.Collections.Sets.{Has}
use Rattle.ltl_spec.specs.Collections.Lists.{place_of}
use Rattle.ltl_spec.specs.Automata.Automaton.{Automaton, Edge, State}
use Rattle.ltl_spec.specs.Automata.Listing.{listing}
use Rattle.ltl_spec.proofs.Collections.ListLaws.{Has-at, place_again}
use Rattle.ltl_spec.proofs.Automata.ListingReach.{listed_within, complete_targets, place_start, listed_start, HasNoRepeats-listed}
use Rattle.ltl_spec.proofs.Automata.ListedStates.{state_at_place}
use Rattle.ltl_models.specs.BaView.{IsReached, start, along}

module _ {K : Type 0} (same : K → K → Bool) (decides : (x y : K) → Decides (same x y) (x ≡ y)) (targets : K → List K) (first : K) (state : List K → K → State) (sets n : ℕ)
    (complete : length (listing same targets first n) ≤ n)
    (has_edge : (keys : List K) (x y : K) → Has (targets x) y → (e : Edge) × Has (state keys x).edges e × (e.target ≡ place_of same y keys)) where
  abbrev keys : List K
  keys = listing same targets first n

  abbrev whole : Automaton
  whole = record { sets = sets; states = map (state keys) keys }

  -- what is listed, at its place
  record IsThere (x : K) : Type 0 where
    pub listed : Has keys x
    pub reached : IsReached whole (place_of same x keys)

  all_there : (x : K) → Has keys x → IsThere x
  all_there =
      listed_within same decides targets first IsThere
      (record { listed = listed_start same decides targets first n; reached = subst (IsReached whole) (sym (place_start same decides targets first n)) start })
      (λ x y p h.
      let (e, k, t) = has_edge keys x y h in
      record {
        listed = complete_targets same decides targets first n complete x y p.listed h;
        reached = subst (IsReached whole) t (along (place_of same x keys) e p.reached (subst (λ (s : State). Has s.edges e) (sym (state_at_place same decides (state keys) keys x p.listed)) k));
      })
      n

  pub listed_reached : (s : ℕ) → s < length whole.states → IsReached whole s
  listed_reached s l =
      let m : s < length keys = subst (λ k. s < k) (length-map keys (state keys)) l in
      let x = slice_index_or keys s first in
      subst (IsReached whole) (place_again same decides keys s first (HasNoRepeats-listed same decides targets first n) m) (all_there x (Has-at keys s first m)).reached
