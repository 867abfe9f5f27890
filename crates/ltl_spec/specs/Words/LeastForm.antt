-- The least form of a word: the shortest cycle, and no letter of the stem that the cycle can take over.
use Rattle.std.specs.Prelude.{ℕ, zero, suc, ◌+◌, ◌-◌, ◌/◌, Bool, false, if◌then◌else◌, List, [], ◌∷◌, length, take}
use Rattle.std.specs.Cmp.Lexicographic.{pointwise}
use Rattle.ltl_spec.specs.Semantics.Word.{Letter, Lasso}
use Rattle.ltl_spec.specs.Formulas.Tokens.{same_name}
use Rattle.ltl_spec.specs.Words.LassoText.{repeated}

abbrev pub same_letter : Letter → Letter → Bool
same_letter = pointwise same_name

abbrev pub same_letters : List Letter → List Letter → Bool
same_letters = pointwise same_letter

-- the first number from d on that passes, of n numbers, or else the one behind them
abbrev pub first_from : (ℕ → Bool) → ℕ → ℕ → ℕ
first_from p zero d = d
first_from p (suc n) d = if p d then d else first_from p n (d + 1)

-- the list repeats its first d letters
abbrev pub repeats : List Letter → ℕ → Bool
repeats xs d = same_letters xs (repeated (length xs / d) (take d xs))

-- the shortest list that is repeated
abbrev pub shortest_cycle : List Letter → List Letter
shortest_cycle xs = take (first_from (repeats xs) (length xs - 1) 1) xs

-- whether the list ends with the letter
abbrev pub last_is : Letter → List Letter → Bool
last_is a [] = false
last_is a (x ∷ []) = same_letter a x
last_is a (x ∷ y ∷ ys) = last_is a (y ∷ ys)

-- the list but for its last letter
abbrev pub without_last : List Letter → List Letter
without_last [] = []
without_last (x ∷ []) = []
without_last (x ∷ y ∷ ys) = x ∷ without_last (y ∷ ys)

-- a letter in front of the word; where there is no stem and the cycle ends with the letter, the cycle begins one letter earlier
abbrev pub put_first : Letter → List Letter → List Letter → Lasso
put_first a [] cycle = if last_is a cycle then record { stem = []; cycle = a ∷ without_last cycle } else record { stem = a ∷ []; cycle = cycle }
put_first a (x ∷ xs) cycle = record { stem = a ∷ x ∷ xs; cycle = cycle }

-- the letters in front of the cycle, one after the other from the last one
abbrev pub put_all : List Letter → List Letter → Lasso
put_all [] cycle = record { stem = []; cycle = cycle }
put_all (a ∷ stem) cycle = let w = put_all stem cycle in put_first a w.stem w.cycle

-- the shortest cycle first, then the stem, letter by letter from its end
abbrev pub least_form : Lasso → Lasso
least_form w = put_all w.stem (shortest_cycle w.cycle)
