-- More numbers than there are values: two of them have one value.
use Rattle.std.proofs.Common.{◌≡◌, ℕ, zero, suc, ◌<◌, ◌≤◌, cond, eqb, inl, inr, arith}
use Rattle.std.proofs.lemmas.Bool.{cases_eq}
use Rattle.std.proofs.lemmas.Bool.Decides.{nat_tests}
use Rattle.ltl_spec.proofs.Semantics.UntilLaws.{some_below}

-- x, or v in the place of m
abbrev moved : ℕ → ℕ → ℕ → ℕ
moved m v x = cond (eqb x m) v x

-- moving keeps different values apart, where none is v
moved_same : (m v x y : ℕ) → (x ≡ v → ⊥) → (y ≡ v → ⊥) → moved m v x ≡ moved m v y → x ≡ y
moved_same m v x y p q e = grind (arith, nat_tests)

-- moving brings the values below m
moved_below : (m v x : ℕ) → x < suc m → v < suc m → (x ≡ v → ⊥) → moved m v x < m
moved_below m v x l k n = grind (arith, nat_tests)

-- whether two numbers are equal is decided
equal_decided : (a b : ℕ) → Dec (a ≡ b)
equal_decided a b = elim (cases_eq a b) [ inl e ↦ yes e | inr n ↦ no n ]

-- two of the numbers up to m have one value
abbrev pub Meets : (ℕ → ℕ) → ℕ → Type 0
Meets f m = (i : ℕ) × (j : ℕ) × (i < j) × (j ≤ m) × (f i ≡ f j)

-- no number up to m has the value of m + 1: then two of them meet where that value is moved
meets_moved : (m : ℕ) (f : ℕ → ℕ) → ((i : ℕ) → i ≤ m → f i ≡ f (suc m) → ⊥) → Meets (λ i. moved m (f (suc m)) (f i)) m → Meets f (suc m)
meets_moved m f apart w =
    let l = w.2 in
    let k = w.3 in
    (w.0, w.1, l, omega arith, moved_same m (f (suc m)) (f w.0) (f w.1) (apart w.0 (omega arith)) (apart w.1 k) w.4)

-- m + 1 numbers have values below m: two of them have the same one
pub pigeonhole : (m : ℕ) (f : ℕ → ℕ) → ((i : ℕ) → i ≤ m → f i < m) → Meets f m
pigeonhole zero f below = let l = below 0 (omega arith) in absurd (omega arith)
pigeonhole (suc m) f below =
    elim (some_below (λ i. f i ≡ f (suc m)) (λ i. equal_decided (f i) (f (suc m))) (suc m)) [
      | yes h ↦ (h.0, suc m, h.1, omega arith, h.2)
      | no n ↦
          let apart : (i : ℕ) → i ≤ m → f i ≡ f (suc m) → ⊥ = λ i l e. n (i, omega arith, e) in
          let inside : (i : ℕ) → i ≤ m → moved m (f (suc m)) (f i) < m = λ i l. moved_below m (f (suc m)) (f i) (below i (omega arith)) (below (suc m) (omega arith)) (apart i l) in
          meets_moved m f apart (pigeonhole m (λ i. moved m (f (suc m)) (f i)) inside)
    ]
