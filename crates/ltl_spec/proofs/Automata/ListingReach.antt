-- What a breadth-first listing reaches: all targets of each state that was taken, and everything that is reachable once all were taken.
use Rattle.std.proofs.Common.{◌≡◌, ℕ, zero, suc, ◌+◌, ◌-◌, ◌<◌, ◌≤◌, Bool, cond, not, inl, inr, List, [], ◌∷◌, ◌++◌, length, refl, sym, ◌∙◌, ap, subst, arith, Some, None}
use Rattle.std.specs.Prelude.{slice_get, slice_index_or}
use Rattle.std.specs.Bool.{Decides}
use Rattle.std.proofs.lemmas.List.{get_or_append_left}
use Rattle.std.proofs.lemmas.Bool.{cases_lt}
use Rattle.std.proofs.lemmas.Option.{slice_get-get_or, slice_get_past}
use Rattle.ltl_spec.specs.Collections.Sets.{Has}
use Rattle.ltl_spec.specs.Collections.Lists.{HasNoRepeats, place_of}
use Rattle.ltl_spec.specs.Automata.Listing.{listing, IsComplete, with_targets_of}
use Rattle.ltl_spec.proofs.Collections.SetLaws.{append_left}
use Rattle.ltl_spec.proofs.Collections.ListLaws.{HasNoRepeats-fold, fold_cases, fold_new, place_below, at_place, numbered_short, slice_get_has}
use Rattle.ltl_spec.proofs.Automata.ListingLaws.{listing_behind, listing_complete}
use Rattle.ltl_spec.proofs.Collections.CaseLaws.{last_or_below}

module _ {K : Type 0} (same : K → K → Bool) (decides : (x y : K) → Decides (same x y) (x ≡ y)) (targets : K → List K) (start : K) where
  -- the list after n things were taken
  abbrev list_after : ℕ → List K
  list_after n = listing same targets start n

  -- the start comes first
  pub listed_begins : (n : ℕ) → (more : List K) × (list_after n ≡ start ∷ more)
  listed_begins zero = ([], refl)
  listed_begins (suc n) =
      let before = listed_begins n in
      let step = listing_behind same targets start n in
      (before.0 ++ step.0, step.1 ∙ ap (λ l. l ++ step.0) before.1)

  pub listed_start : (n : ℕ) → Has (list_after n) start
  listed_start n = let w = listed_begins n in subst (λ l. Has l start) (sym w.1) (inl refl)

  pub place_start : (n : ℕ) → place_of same start (list_after n) ≡ 0
  place_start n = let w = listed_begins n in ap (place_of same start) w.1 ∙ ap (λ b. cond (not b) (1 + place_of same start w.0) 0) ((decides start start).1 refl)

  -- nothing stands twice
  pub HasNoRepeats-listed : (n : ℕ) → HasNoRepeats (list_after n)
  HasNoRepeats-listed zero = ((λ h. h), tt)
  HasNoRepeats-listed (suc n) =
      let before = HasNoRepeats-listed n in
      elim (slice_get (list_after n) n) as (λ o. HasNoRepeats (with_targets_of same targets (list_after n) o)) [
        | None ↦ before
        | Some s ↦ HasNoRepeats-fold same decides (targets s) (list_after n) before
      ]

  -- what holds of the start and of the targets of whatever it holds of, holds of each listed thing
  pub listed_within : (P : K → Type 0) → P start → ((x y : K) → P x → Has (targets x) y → P y) → (n : ℕ) (z : K) → Has (list_after n) z → P z
  listed_within P begins leads zero z (inl e) = subst P (sym e) begins
  listed_within P begins leads zero z (inr h) = absurd h
  listed_within P begins leads (suc n) z h =
      let before : (x : K) → Has (list_after n) x → P x = listed_within P begins leads n in
      elim (slice_get (list_after n) n) as (λ o. slice_get (list_after n) n ≡ o → Has (with_targets_of same targets (list_after n) o) z → P z) [
        | None ↦ λ e k. before z k
        | Some s ↦ λ e k. elim (fold_cases same decides (targets s) (list_after n) z k) [
          | inl m ↦ before z m
          | inr m ↦ leads s z (before s (slice_get_has (list_after n) n s e)) m
        ]
      ] refl h

  -- what was listed stays listed
  pub listed_old : (n : ℕ) (z : K) → Has (list_after n) z → Has (list_after (suc n)) z
  listed_old n z h = let w = listing_behind same targets start n in subst (λ l. Has l z) (sym w.1) (append_left (list_after n) w.0 z h)

  -- taking the one at a place lists its targets
  listed_taken : (n : ℕ) (d y : K) → n < length (list_after n) → Has (targets (slice_index_or (list_after n) n d)) y → Has (list_after (suc n)) y
  listed_taken n d y l h =
      let s = slice_index_or (list_after n) n d in
      subst (λ o. Has (with_targets_of same targets (list_after n) o) y) (sym (slice_get-get_or (list_after n) n d l)) (fold_new same decides (targets s) (list_after n) y h)

  -- where there is none to take the list stays
  listed_stays : (n : ℕ) → length (list_after n) ≤ n → list_after (suc n) ≡ list_after n
  listed_stays n l = ap (with_targets_of same targets (list_after n)) (slice_get_past (list_after n) n l)

  -- the targets of each of the first n are listed when n were taken
  pub listed_targets : (n i : ℕ) (d y : K) → i < n → i < length (list_after n) → Has (targets (slice_index_or (list_after n) i d)) y → Has (list_after n) y
  listed_targets zero i d y l m h = absurd (omega arith)
  listed_targets (suc n) i d y l m h =
      let before : i < n → i < length (list_after n) → Has (targets (slice_index_or (list_after n) i d)) y → Has (list_after n) y = listed_targets n i d y in
      elim (cases_lt i (length (list_after n))) [
        | inl within ↦
            let step = listing_behind same targets start n in
            let here = subst (λ s. Has (targets s) y) (ap (λ xs. slice_index_or xs i d) step.1 ∙ get_or_append_left (list_after n) step.0 d i within) h in
            elim (last_or_below i n l) [
              | inl earlier ↦ listed_old n y (before earlier within here)
              | inr now ↦ listed_taken n d y (subst (λ k. k < length (list_after n)) now within) (subst (λ k. Has (targets (slice_index_or (list_after n) k d)) y) now here)
            ]
        | inr past ↦
            let stays = ap length (listed_stays n (omega arith)) in
            absurd (omega (arith, stays))
      ]

  -- where all were taken the targets of each are listed
  pub complete_targets : (n : ℕ) → length (list_after n) ≤ n → (x y : K) → Has (list_after n) x → Has (targets x) y → Has (list_after n) y
  complete_targets n l x y h m =
      let within : place_of same x (list_after n) < length (list_after n) = place_below same decides x (list_after n) h in
      listed_targets n (place_of same x (list_after n)) x y (omega arith) within (subst (λ s. Has (targets s) y) (sym (at_place same decides x (list_after n) x h)) m)

  -- where different listed things have different numbers below n, n steps take all
  module _ (P : K → Type 0) (begins : P start) (leads : (x y : K) → P x → Has (targets x) y → P y) (number : K → ℕ) (n : ℕ) (below : (x : K) → P x → number x < n) (apart : (x y : K) → P x → P y → number x ≡ number y → x ≡ y) where
    -- no listing is longer
    pub listed_short : (m : ℕ) → length (list_after m) ≤ n
    listed_short m =
        let within = listed_within P begins leads m in
        numbered_short (list_after m) number n (HasNoRepeats-listed m) (λ x h. below x (within x h)) (λ x y h k. apart x y (within x h) (within y k))

    -- whichever step took the last one, the list is the same
    pub complete_is_all : (m : ℕ) → IsComplete same targets start m → list_after m ≡ list_after n
    complete_is_all m c =
        let l : length (list_after m) ≤ n = listed_short m in
        let e : (n - m) + m ≡ n = omega (arith, c) in
        sym (ap list_after (sym e) ∙ listing_complete same targets start m (n - m) (omega (arith, c)))

    -- after n steps the targets of each listed thing are listed
    pub listed_all : (x y : K) → Has (list_after n) x → Has (targets x) y → Has (list_after n) y
    listed_all = complete_targets n (listed_short n)
