-- The least form of a word has no more letters than it was made of.
use Rattle.std.proofs.Common.{◌≡◌, ℕ, zero, suc, ◌+◌, ◌-◌, ◌≤◌, Bool, true, false, cond, List, [], ◌∷◌, length, take, refl, ap, arith}
use Rattle.ltl_spec.specs.Semantics.Word.{Letter, Lasso}
use Rattle.ltl_spec.specs.Words.LeastForm.{first_from, repeats, shortest_cycle, last_is, without_last, put_first, put_all, least_form}

abbrev letters : Lasso → ℕ
letters w = length w.stem + length w.cycle

take_most : (n : ℕ) (xs : List Letter) → length (take n xs) ≤ length xs
take_most zero [] = omega arith
take_most zero (x ∷ xs) = omega arith
take_most (suc n) [] = omega arith
take_most (suc n) (x ∷ xs) = let h = take_most n xs in omega arith

-- all letters but the last one, and another one
one_less : (x : Letter) (xs : List Letter) → length (without_last (x ∷ xs)) ≡ length xs
one_less x [] = refl
one_less x (y ∷ ys) = ap suc (one_less y ys)

first_most : (a : Letter) (stem cycle : List Letter) → letters (put_first a stem cycle) ≤ suc (length stem + length cycle)
first_most a (x ∷ xs) cycle = omega arith
first_most a [] [] = omega arith
first_most a [] (x ∷ xs) = by (last_is a (x ∷ xs))
  where
    by : (b : Bool) → letters (cond b (record { stem = []; cycle = a ∷ without_last (x ∷ xs) }) (record { stem = a ∷ []; cycle = x ∷ xs })) ≤ suc (length {A = Letter} [] + length (x ∷ xs))
    by true = let h = one_less x xs in omega arith
    by false = omega arith

all_most : (stem cycle : List Letter) → letters (put_all stem cycle) ≤ length stem + length cycle
all_most [] cycle = omega arith
all_most (a ∷ stem) cycle = let h = all_most stem cycle in let f = first_most a (put_all stem cycle).stem (put_all stem cycle).cycle in omega arith

pub least_most : (w : Lasso) → length (least_form w).stem + length (least_form w).cycle ≤ length w.stem + length w.cycle
least_most w =
    let h = all_most w.stem (shortest_cycle w.cycle) in
    let t = take_most (first_from (repeats w.cycle) (length w.cycle - 1) 1) w.cycle in
    omega arith
