-- A breadth-first listing goes on from the one before, and there is one complete listing.
use Rattle.std.proofs.Common.{◌≡◌, ℕ, zero, suc, ◌+◌, ◌-◌, ◌≤◌, Bool, true, false, cond, inl, inr, List, [], ◌∷◌, ◌++◌, length, refl, sym, ◌∙◌, ap, subst, arith, append_assoc, Option, Some, None}
use Rattle.std.specs.Prelude.{slice_get, fold}
use Rattle.std.proofs.lemmas.List.{append-nil}
use Rattle.std.specs.List.{list_any}
use Rattle.std.proofs.lemmas.Bool.{cases_lt}
use Rattle.std.proofs.lemmas.Option.{slice_get_past}
use Rattle.ltl_spec.specs.Collections.Lists.{with_new}
use Rattle.ltl_spec.specs.Automata.Listing.{listing, IsComplete, with_targets_of}

module _ {K : Type 0} (same : K → K → Bool) where
  -- what is put behind a list leaves the list as its beginning
  pub with_new_behind : (xs : List K) (x : K) → (more : List K) × (with_new same xs x ≡ xs ++ more)
  with_new_behind xs x = elim (list_any (same x) xs) as (λ b. (more : List K) × (cond b xs (xs ++ x ∷ []) ≡ xs ++ more)) [ true ↦ ([], sym (append-nil xs)) | false ↦ (x ∷ [], refl) ]

  pub fold_behind : (ys xs : List K) → (more : List K) × (fold (with_new same) xs ys ≡ xs ++ more)
  fold_behind [] xs = ([], sym (append-nil xs))
  fold_behind (y ∷ ys) xs =
      let first = with_new_behind xs y in
      let rest = fold_behind ys (with_new same xs y) in
      (first.0 ++ rest.0, rest.1 ∙ ap (λ l. l ++ rest.0) first.1 ∙ append_assoc xs first.0 rest.0)

  module _ (targets : K → List K) (start : K) where
    -- each list begins with the ones before it
    pub listing_behind : (n : ℕ) → (more : List K) × (listing same targets start (suc n) ≡ listing same targets start n ++ more)
    listing_behind n = go (slice_get (listing same targets start n) n)
      where
        go : (o : Option K) → (more : List K) × (with_targets_of same targets (listing same targets start n) o ≡ listing same targets start n ++ more)
        go None = ([], sym (append-nil (listing same targets start n)))
        go (Some s) = fold_behind (targets s) (listing same targets start n)

    -- once all were taken nothing more comes
    pub listing_complete : (n k : ℕ) → length (listing same targets start n) ≤ n → listing same targets start (k + n) ≡ listing same targets start n
    listing_complete n zero l = let e : 0 + n ≡ n = omega arith in ap (listing same targets start) e
    listing_complete n (suc k) l =
        let e : suc k + n ≡ suc (k + n) = omega arith in
        let before = listing_complete n k l in
        let past : length (listing same targets start (k + n)) ≤ k + n = subst (λ m. length m ≤ k + n) (sym before) (omega arith) in
        ap (listing same targets start) e
        ∙ ap (with_targets_of same targets (listing same targets start (k + n))) (slice_get_past (listing same targets start (k + n)) (k + n) past)
        ∙ before

    -- there is one complete list
    pub one_complete : (m n : ℕ) → IsComplete same targets start m → IsComplete same targets start n → listing same targets start m ≡ listing same targets start n
    one_complete m n c d =
        elim (cases_lt m n) [
          | inl l ↦ let e : (n - m) + m ≡ n = omega arith in sym (ap (listing same targets start) (sym e) ∙ listing_complete m (n - m) (omega (arith, c)))
          | inr l ↦ let e : (m - n) + n ≡ m = omega arith in ap (listing same targets start) (sym e) ∙ listing_complete n (m - n) (omega (arith, d))
        ]
