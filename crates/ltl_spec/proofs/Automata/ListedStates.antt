-- The states of an automaton by their numbers, and automata with a state for each element of a list.
use Rattle.std.proofs.Common.{◌≡◌, ℕ, zero, suc, ◌<◌, Bool, true, List, [], ◌∷◌, length, map, refl, sym, ◌∙◌, ap, arith}
use Rattle.std.specs.Prelude.{slice_index_or}
use Rattle.std.specs.Bool.{Decides}
use Rattle.std.proofs.lemmas.List.{get_or-map}
use Rattle.ltl_spec.specs.Collections.Sets.{Has}
use Rattle.ltl_spec.specs.Collections.Lists.{place_of}
use Rattle.ltl_spec.specs.Automata.Automaton.{Automaton, State, Edge, state_at}
use Rattle.ltl_spec.proofs.Semantics.Runs.{Run}
use Rattle.ltl_spec.proofs.Collections.ListLaws.{place_below, at_place}

-- the state where there is none
abbrev pub no_state : State
no_state = record { accepting = true; edges = [] }

-- where there is a state it doesn't matter what stands for none
pub any_state : (xs : List State) (k : ℕ) (d : State) → k < length xs → slice_index_or xs k d ≡ slice_index_or xs k no_state
any_state [] k d b = absurd (omega arith)
any_state (x ∷ xs) zero d b = refl
any_state (x ∷ xs) (suc k) d b = any_state xs k d (omega arith)

-- what has an edge is a state
pub state_inside : (xs : List State) (i : ℕ) (e : Edge) → Has (slice_index_or xs i no_state).edges e → i < length xs
state_inside [] zero e h = absurd h
state_inside [] (suc i) e h = absurd h
state_inside (x ∷ xs) zero e h = omega arith
state_inside (x ∷ xs) (suc i) e h = let l = state_inside xs i e h in omega arith

pub has_edge_below : (A : Automaton) (s : ℕ) (e : Edge) → Has (state_at A s).edges e → s < length A.states
has_edge_below A s e h = state_inside A.states s e h

-- a run stays among the states
pub run_below : {A : Automaton} {holds : ℕ → ℕ → Bool} {step : ℕ → ℕ} (R : Run A holds step) (k : ℕ) → R.state k < length A.states
run_below {A} {holds} {step} R k = has_edge_below A (R.state k) (R.edge k) (R.edges k)

module _ {K : Type 0} (same : K → K → Bool) (decides : (x y : K) → Decides (same x y) (x ≡ y)) (f : K → State) (list : List K) where
  -- at the place of a listed thing stands its state
  pub state_at_place : (x : K) → Has list x → slice_index_or (map f list) (place_of same x list) no_state ≡ f x
  state_at_place x h = get_or-map f list (place_of same x list) x no_state (place_below same decides x list h) ∙ ap f (at_place same decides x list x h)

-- the state at a place is that of the thing that stands there
pub state_of_place : {K : Type 0} (f : K → State) (list : List K) (s : ℕ) (d : K) → s < length list → slice_index_or (map f list) s no_state ≡ f (slice_index_or list s d)
state_of_place f list s d l = get_or-map f list s d no_state l

-- the state at a number, where each state was changed and the missing one stays
pub mapped_at : (f : State → State) → f no_state ≡ no_state → (xs : List State) (s : ℕ) → slice_index_or (map f xs) s no_state ≡ f (slice_index_or xs s no_state)
mapped_at f e [] zero = sym e
mapped_at f e [] (suc s) = sym e
mapped_at f e (x ∷ xs) zero = refl
mapped_at f e (x ∷ xs) (suc s) = mapped_at f e xs s
