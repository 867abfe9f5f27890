-- The limits of a listing are decided while it is made: what has passed them at some step passes them at each later one.
use Rattle.std.proofs.Common.{◌≡◌, ℕ, zero, suc, ◌+◌, ◌-◌, ◌<◌, ◌≤◌, Bool, ◌⊎◌, ◌↔◌, inl, inr, List, [], ◌∷◌, ◌++◌, length, sym, ◌∙◌, ap, subst, arith, append_assoc, length-append}
use Rattle.std.specs.Prelude.{take, sum_by, slice_index_or}
use Rattle.std.proofs.lemmas.List.{append-nil, take_all}
use Rattle.std.proofs.lemmas.List.Sums.{sum_by-cons}
use Rattle.ltl_spec.specs.Automata.Listing.{listing, IsComplete, PassesLimits}
use Rattle.ltl_spec.proofs.Automata.ListingLaws.{listing_behind, listing_complete}
pub use Rattle.ltl_spec.specs.Automata.Listing.{edges_after}

-- beginnings of lists

module _ {K : Type 0} (f : K → ℕ) where
  -- more of a longer list has no lesser sum
  pub sum_grows : (xs more : List K) (m n : ℕ) → m ≤ n → sum_by f (take m xs) ≤ sum_by f (take n (xs ++ more))
  sum_grows xs more zero n l = omega arith
  sum_grows xs more (suc m) zero l = absurd (omega arith)
  sum_grows [] more (suc m) (suc n) l = omega arith
  sum_grows (x ∷ xs) more (suc m) (suc n) l =
      let a = sum_by-cons f x (take m xs) in
      let b = sum_by-cons f x (take n (xs ++ more)) in
      let rest = sum_grows xs more m n (omega arith) in
      omega arith

  -- one more element adds its own, also where more was put behind the list
  pub sum_step : (xs more : List K) (n : ℕ) (d : K) → n < length xs → sum_by f (take (suc n) (xs ++ more)) ≡ sum_by f (take n xs) + f (slice_index_or xs n d)
  sum_step [] more n d l = absurd (omega arith)
  sum_step (x ∷ xs) more zero d l = omega arith
  sum_step (x ∷ xs) more (suc n) d l =
      let a = sum_by-cons f x (take (suc n) (xs ++ more)) in
      let b = sum_by-cons f x (take n xs) in
      let rest = sum_step xs more n d (omega arith) in
      omega arith

-- one number is at most the other
at_most_or_above : (m n : ℕ) → (m ≤ n) ⊎ (n ≤ m)
at_most_or_above m n = grind arith

module _ {K : Type 0} (same : K → K → Bool) (targets : K → List K) (start : K) where
  -- the list after n things were taken
  abbrev pub list_after : ℕ → List K
  list_after n = listing same targets start n

  -- the running numbers are too large after n things were taken
  abbrev pub IsPassedAt : ℕ → ℕ → ℕ → Type 0
  IsPassedAt most_states most_edges n = (most_states < length (list_after n)) ⊎ (most_edges < edges_after same targets start n)

  -- a later list begins with an earlier one
  pub listing_later : (m k : ℕ) → (more : List K) × (list_after (k + m) ≡ list_after m ++ more)
  listing_later m zero = let e : 0 + m ≡ m = omega arith in ([], ap list_after e ∙ sym (append-nil (list_after m)))
  listing_later m (suc k) =
      let e : suc k + m ≡ suc (k + m) = omega arith in
      let before = listing_later m k in
      let last = listing_behind same targets start (k + m) in
      (before.0 ++ last.0, ap list_after e ∙ last.1 ∙ ap (λ l. l ++ last.0) before.1 ∙ append_assoc (list_after m) before.0 last.0)

  -- the running numbers only grow
  pub list_grows : (m n : ℕ) → m ≤ n → length (list_after m) ≤ length (list_after n)
  list_grows m n l =
      let e : (n - m) + m ≡ n = omega arith in
      let w = listing_later m (n - m) in
      let d : length (list_after n) ≡ length (list_after m ++ w.0) = ap (λ k. length (list_after k)) (sym e) ∙ ap length w.1 in
      let c = length-append (list_after m) w.0 in
      omega arith

  -- and so does that of the targets
  pub edges_grow : (m n : ℕ) → m ≤ n → edges_after same targets start m ≤ edges_after same targets start n
  edges_grow m n l =
      let e : (n - m) + m ≡ n = omega arith in
      let w = listing_later m (n - m) in
      let d : list_after n ≡ list_after m ++ w.0 = ap list_after (sym e) ∙ w.1 in
      subst (λ (xs : List K). edges_after same targets start m ≤ sum_by (λ s. length (targets s)) (take n xs)) (sym d) (sum_grows (λ s. length (targets s)) (list_after m) w.0 m n l)

  module _ (most_states most_edges : ℕ) where
    -- for these limits
    abbrev IsPassed : ℕ → Type 0
    IsPassed = IsPassedAt most_states most_edges

    -- what has passed the limits passes them at each later step
    pub passed_later : (m n : ℕ) → m ≤ n → IsPassed m → IsPassed n
    passed_later m n l (inl p) = let g = list_grows m n l in inl (omega arith)
    passed_later m n l (inr p) = let g = edges_grow m n l in inr (omega arith)

    -- where all were taken nothing grows any more
    complete_passed : (n m : ℕ) → IsComplete same targets start n → n ≤ m → IsPassed m → IsPassed n
    complete_passed n m c l p =
        let e : (m - n) + n ≡ m = omega arith in
        let long : length (list_after n) ≤ n = omega (arith, c) in
        let stays : list_after m ≡ list_after n = ap list_after (sym e) ∙ listing_complete same targets start n (m - n) long in
        let taken : take m (list_after m) ≡ take n (list_after n) =
        ap (take m) stays ∙ take_all m (list_after n) (omega arith) ∙ sym (take_all n (list_after n) long) in
        elim p [
          | inl a ↦ let s = ap length stays in inl (omega arith)
          | inr a ↦ let s = ap (sum_by (λ t. length (targets t))) taken in inr (omega arith)
        ]

    -- at the end of a complete listing the limits are passed exactly where they are passed there
    pub passed_complete : (n : ℕ) → IsComplete same targets start n → PassesLimits same targets start most_states most_edges ↔ IsPassed n
    passed_complete n c = (
      (λ w. elim (at_most_or_above w.0 n) [ inl l ↦ passed_later w.0 n l w.1 | inr l ↦ complete_passed n w.0 c l w.1 ]),
      λ p. (n, p),
    )

    -- a complete listing within the limits never passes them
    pub never_passed : (n : ℕ) → IsComplete same targets start n → length (list_after n) ≤ most_states → edges_after same targets start n ≤ most_edges → ¬ (PassesLimits same targets start most_states most_edges)
    never_passed n c s e w = elim ((passed_complete n c).0 w) [ inl p ↦ omega arith | inr p ↦ omega arith ]
