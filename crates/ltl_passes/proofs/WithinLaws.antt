-- What leads within a coarser partition still does after a change.
use Rattle.std.proofs.Common.{◌≡◌, ℕ, zero, suc, ◌<◌, ◌⊎◌, inl, inr, List, [], ◌∷◌, ◌++◌, length, set, take, sym, ◌∙◌, ap, subst, arith}
use Rattle.std.specs.Prelude.{slice_index, All}
use Rattle.std.specs.List.{swap, range_with_len}
use Rattle.std.proofs.lemmas.List.{get_or-set_same, get_or-set_other}
use Rattle.std.proofs.lemmas.List.Edits.{swap_is}
use Rattle.std.proofs.lemmas.List.FromFn.{length-range_with_len, get_or-range_with_len}
use Rattle.std.proofs.Math.ListN.{length-set}
use Rattle.std.proofs.Math.Seq.{take-append_seam}
use Rattle.ltl_spec.proofs.Collections.CaseLaws.{below_equal_above}
use Rattle.ltl_passes.specs.Worklist.{AreWithin, LeadsWithin}

-- each state leads to itself
pub own_within : (coarse : ℕ → ℕ) (n : ℕ) (xs : List ℕ) → xs ≡ range_with_len 0 n → LeadsWithin coarse n xs
own_within coarse n xs e = record {
  states = record { long = ap length e ∙ length-range_with_len 0 n; inside = λ s l. let q = at s l in omega arith };
  same = λ s l. ap coarse (at s l);
}
  where
    at : (s : ℕ) → s < n → slice_index xs s ≡ s
    at s l = ap (λ ys. slice_index ys s) e ∙ (let q = get_or-range_with_len 0 n s 0 l in omega (arith, q))

-- another state of the class
pub within_set : (coarse : ℕ → ℕ) (n : ℕ) (xs : List ℕ) (i y : ℕ) → i < n → y < n → coarse y ≡ coarse i → LeadsWithin coarse n xs → LeadsWithin coarse n (set xs i y)
within_set coarse n xs i y l m e w = record {
  states = record { long = length-set xs i y ∙ w.states.long; inside = λ s h. inside s h (at s) };
  same = λ s h. same s h (at s);
}
  where
    at : (s : ℕ) → ((s ≡ i) × (slice_index (set xs i y) s ≡ y)) ⊎ (slice_index (set xs i y) s ≡ slice_index xs s)
    at s = elim (below_equal_above s i) [
      | inl h ↦ inr (get_or-set_other xs i s y 0 (λ q. omega arith))
      | inr (inl q) ↦ inl (q, subst (λ t. slice_index (set xs i y) t ≡ y) (sym q) (get_or-set_same xs i y 0 (let long = w.states.long in omega arith)))
      | inr (inr h) ↦ inr (get_or-set_other xs i s y 0 (λ q. omega arith))
    ]

    inside : (s : ℕ) → s < n → ((s ≡ i) × (slice_index (set xs i y) s ≡ y)) ⊎ (slice_index (set xs i y) s ≡ slice_index xs s) → slice_index (set xs i y) s < n
    inside s h (inl (q, p)) = omega arith
    inside s h (inr p) = let a = w.states.inside s h in omega arith

    same : (s : ℕ) → s < n → ((s ≡ i) × (slice_index (set xs i y) s ≡ y)) ⊎ (slice_index (set xs i y) s ≡ slice_index xs s) → coarse (slice_index (set xs i y) s) ≡ coarse s
    same s h (inl (q, p)) = ap coarse p ∙ e ∙ ap coarse (sym q)
    same s h (inr p) = ap coarse p ∙ w.same s h

-- two states of one class exchanged
pub within_swap : (coarse : ℕ → ℕ) (n : ℕ) (xs : List ℕ) (i j : ℕ) → i < n → j < n → coarse i ≡ coarse j → LeadsWithin coarse n xs → LeadsWithin coarse n (swap xs i j)
within_swap coarse n xs i j l m e w =
    let long = w.states.long in
    let p = w.states.inside i l in
    let q = w.states.inside j m in
    subst (LeadsWithin coarse n) (swap_is xs i j 0 (omega arith) (omega arith))
    (within_set coarse n (set xs i (slice_index xs j)) j (slice_index xs i) m p (w.same i l ∙ e) (within_set coarse n xs i (slice_index xs j) l q (w.same j m ∙ sym e) w))

-- one more number below a bound
pub all_pushed : (n : ℕ) (xs ys : List ℕ) (x : ℕ) → All (λ s. s < n) xs → x < n → ys ≡ xs ++ x ∷ [] → All (λ s. s < n) ys
all_pushed n xs ys x w l e = subst (All (λ s. s < n)) (sym e) (more xs w)
  where
    more : (zs : List ℕ) → All (λ s. s < n) zs → All (λ s. s < n) (zs ++ x ∷ [])
    more [] v zero d h = l
    more [] v (suc k) d h = absurd (omega arith)
    more (z ∷ zs) v zero d h = v zero d (omega arith)
    more (z ∷ zs) v (suc k) d h = more zs (λ j c i. v (suc j) c (omega arith)) k d (omega arith)

pub set_long : (xs : List ℕ) (i y : ℕ) → length (set xs i y) ≡ length xs
set_long xs i y = length-set xs i y

-- a vector whose whole slice was written
pub written_back : (n : ℕ) (ys rest : List ℕ) → n ≡ length ys → take n (ys ++ rest) ≡ ys
written_back n ys rest e = ap (λ k. take k (ys ++ rest)) e ∙ take-append_seam ys rest

-- the smaller class has another name, and the rings are one
pub joined_within : (coarse : ℕ → ℕ) (names links made swapped : List ℕ) (from to : ℕ) → from < length names → to < length names → coarse from ≡ coarse to → length made ≡ length names
    → (LeadsWithin coarse (length names) links → LeadsWithin coarse (length names) names → LeadsWithin coarse (length names) made) → swapped ≡ swap links from to → AreWithin coarse names links → AreWithin coarse made swapped
joined_within coarse names links made swapped from to l m e long rename s w = record {
  names = subst (λ n. LeadsWithin coarse n made) (sym long) (rename w.links w.names);
  links = subst (λ n. LeadsWithin coarse n swapped) (sym long) (subst (LeadsWithin coarse (length names)) (sym s) (within_swap coarse (length names) links from to l m e w.links));
}

-- the names of two states of one class are in one class
pub same_class : (coarse : ℕ → ℕ) (names links : List ℕ) (first other a b : ℕ) → first < length names → other < length names → a ≡ slice_index names first → b ≡ slice_index names other → AreWithin coarse names links → coarse first ≡ coarse other → coarse a ≡ coarse b
same_class coarse names links first other a b l m p q w e = ap coarse p ∙ w.names.same first l ∙ e ∙ sym (w.names.same other m) ∙ ap coarse (sym q)
