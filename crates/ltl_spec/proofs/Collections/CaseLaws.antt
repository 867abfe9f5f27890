-- Cases on truth values and on numbers.
use Rattle.std.proofs.Common.{◌≡◌, ◌≢◌, ℕ, suc, ◌+◌, ◌<◌, ◌≤◌, Bool, true, false, ◌&&◌, ◌⊎◌, nat_eq, refl, arith}
use Rattle.std.specs.Bool.{beq}
use Rattle.std.proofs.lemmas.Bool.{false≢true}
use Rattle.std.proofs.lemmas.Bool.Decides.{nat_tests}

-- false isn't true
pub false_is_true : {P : Type 0} → false ≡ true → P
false_is_true e = absurd (false≢true e)

-- what both tests say, each says
pub left_true : (s t : Bool) → (s && t) ≡ true → s ≡ true
left_true true t e = refl
left_true false t e = e

pub right_true : (s t : Bool) → (s && t) ≡ true → t ≡ true
right_true true t e = e
right_true false t e = false_is_true e

-- the test of equality on truth values
pub beq_true : (s t : Bool) → beq s t ≡ true → s ≡ t
beq_true true true e = refl
beq_true true false e = false_is_true e
beq_true false true e = false_is_true e
beq_true false false e = refl

pub beq_refl : (s : Bool) → beq s s ≡ true
beq_refl true = refl
beq_refl false = refl

-- what is below the next number is below this one or is it
pub last_or_below : (i j : ℕ) → i < suc j → (i < j) ⊎ (i ≡ j)
last_or_below i j l = grind arith

pub below_or_last : (k n : ℕ) → k < n + 1 → (k < n) ⊎ (k ≡ n)
below_or_last k n l = grind arith

-- what is at least a number is it or above it
pub here_or_above : (i j : ℕ) → i ≤ j → (i ≡ j) ⊎ (i + 1 ≤ j)
here_or_above i j l = grind arith

-- one number is below the other, or they are equal
pub below_equal_above : (i j : ℕ) → (i < j) ⊎ ((i ≡ j) ⊎ (j < i))
below_equal_above i j = grind arith

-- the test of equality on numbers
pub nat_eq_same : (m n : ℕ) → m ≡ n → nat_eq m n ≡ true
nat_eq_same m n e = grind (arith, nat_tests)

pub nat_eq_is : (m n : ℕ) → nat_eq m n ≡ true → m ≡ n
nat_eq_is m n e = grind (arith, nat_tests)

pub nat_eq_other : (m n : ℕ) → m ≢ n → nat_eq m n ≡ false
nat_eq_other m n d = grind (arith, nat_tests)
