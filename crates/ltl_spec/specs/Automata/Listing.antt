-- States listed breadth first: the start, then for each listed state in turn its new targets in order.
use Rattle.std.specs.Prelude.{◌≡◌, ℕ, zero, suc, ◌<◌, Bool, ◌⊎◌, List, [], ◌∷◌, length, take, sum_by, fold, slice_get, Option, Some, None}
use Rattle.ltl_spec.specs.Collections.Lists.{with_new}

module _ {K : Type 0} (same : K → K → Bool) (targets : K → List K) where
  -- the list with the new targets of a state, if there is one
  abbrev pub with_targets_of : List K → Option K → List K
  with_targets_of list None = list
  with_targets_of list (Some s) = fold (with_new same) list (targets s)

  -- the list after n states were taken
  abbrev pub listing : K → ℕ → List K
  listing start zero = start ∷ []
  listing start (suc n) = let list = listing start n in with_targets_of list (slice_get list n)

  -- how many transitions the first n states have together
  abbrev pub edges_after : K → ℕ → ℕ
  edges_after start n = sum_by (λ s. length (targets s)) (take n (listing start n))

  -- all listed states were taken
  abbrev pub IsComplete : K → ℕ → Type 0
  IsComplete start n = n ≡ length (listing start n)

  -- some beginning of the list, with the transitions of its states, has more than so many states or transitions
  abbrev pub PassesLimits : K → ℕ → ℕ → Type 0
  PassesLimits start most_states most_edges =
      (n : ℕ) × ((most_states < length (listing start n)) ⊎ (most_edges < edges_after start n))
