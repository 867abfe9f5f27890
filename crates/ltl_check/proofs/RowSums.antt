-- Sums over the states on all levels.
use Rattle.std.proofs.Common.{◌≡◌, ℕ, zero, suc, ◌+◌, ◌*◌, ◌/◌, ◌≤◌, sym, ◌∙◌, ap, subst, arith}
use Rattle.std.proofs.Math.Nat.{suc-mul, mul-add, zero-mul, mul-zero}
use Rattle.std.proofs.lemmas.Nat.{div-mul-add}
use Rattle.ltl_check.specs.Explored.{sum_below}

-- k levels of state a
block : (f : ℕ → ℕ) (r a k : ℕ) → k ≤ r + 1 → sum_below (λ n. f (n / (r + 1))) (a * (r + 1) + k) ≡ sum_below (λ n. f (n / (r + 1))) (a * (r + 1)) + k * f a
block f r a zero l = let e : a * (r + 1) + 0 ≡ a * (r + 1) = omega arith in rw e (omega arith)
block f r a (suc k) l =
    let e : a * (r + 1) + suc k ≡ suc (a * (r + 1) + k) = omega arith in
    let h = block f r a k (omega arith) in
    let d : f ((a * (r + 1) + k) / (r + 1)) ≡ f a = ap f (div-mul-add a (r + 1) k (omega arith)) in
    let m : suc k * f a ≡ k * f a + f a = suc-mul k (f a) in
    let s : sum_below (λ n. f (n / (r + 1))) (a * (r + 1) + suc k) ≡ sum_below (λ n. f (n / (r + 1))) (a * (r + 1) + k) + f ((a * (r + 1) + k) / (r + 1)) = ap (sum_below (λ n. f (n / (r + 1)))) e in
    omega arith

pub sum_levels : (f : ℕ → ℕ) (r count : ℕ) → sum_below (λ n. f (n / (r + 1))) (count * (r + 1)) ≡ (r + 1) * sum_below f count
sum_levels f r zero = ap (sum_below (λ n. f (n / (r + 1)))) (zero-mul (r + 1)) ∙ sym (mul-zero (r + 1))
sum_levels f r (suc c) =
    let e : suc c * (r + 1) ≡ c * (r + 1) + (r + 1) = suc-mul c (r + 1) in
    let b = block f r c (r + 1) (omega arith) in
    let h = sum_levels f r c in
    let m : (r + 1) * (sum_below f c + f c) ≡ (r + 1) * sum_below f c + (r + 1) * f c = mul-add (r + 1) (sum_below f c) (f c) in
    ap (sum_below (λ n. f (n / (r + 1)))) e ∙ b ∙ ap (λ v. v + (r + 1) * f c) h ∙ sym m

pub most_levels : (f : ℕ → ℕ) (r count c : ℕ) → c ≤ 2 * sum_below (λ n. f (n / (r + 1))) (count * (r + 1)) → c ≤ 2 * ((r + 1) * sum_below f count)
most_levels f r count c l = subst (λ v. c ≤ 2 * v) (sum_levels f r count) l
