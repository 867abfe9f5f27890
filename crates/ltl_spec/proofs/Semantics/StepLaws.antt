-- Laws of `after_steps`, and of the positions of a lasso.
use Rattle.std.proofs.Common.{◌≡◌, ℕ, zero, suc, ◌+◌, ◌<◌, cond, ltb, ◌++◌, length, refl, arith, length-append}
use Rattle.std.proofs.lemmas.Bool.Decides.{nat_tests}
use Rattle.ltl_spec.specs.Semantics.Word.{Lasso, next, after_steps}
use Rattle.ltl_spec.proofs.Semantics.Runs.{IsBounded}

-- one more step is a last step
pub after_last : (step : ℕ → ℕ) (k i : ℕ) → after_steps step (suc k) i ≡ step (after_steps step k i)
after_last step zero i = refl
after_last step (suc k) i = after_last step k (step i)

-- positions that are never left bound those that are reached
pub bounded : (step : ℕ → ℕ) (n : ℕ) → 0 < n → ((i : ℕ) → i < n → step i < n) → IsBounded step n
bounded step n l stays k = at k 0 l
  where
    at : (k i : ℕ) → i < n → after_steps step k i < n
    at zero i l = l
    at (suc k) i l = at k (step i) (stays i l)

-- the position after i, where there are s positions and the cycle begins at c
one_on : (s c i : ℕ) → c < s → cond (ltb (i + 1) s) (i + 1) c < s
one_on s c i l = grind (arith, nat_tests)

-- the positions of a lasso are those of its stem and its cycle
pub lasso_bounded : (w : Lasso) → 0 < length w.cycle → IsBounded (next w) (length (w.stem ++ w.cycle))
lasso_bounded w cycles =
    let long : length (w.stem ++ w.cycle) ≡ length w.stem + length w.cycle = length-append w.stem w.cycle in
    bounded (next w) (length (w.stem ++ w.cycle)) (omega arith) (λ i l. one_on (length (w.stem ++ w.cycle)) (length w.stem) i (omega arith))
