-- Ultimately periodic words: a stem, and a cycle that repeats for ever.
use Rattle.std.specs.Prelude.{◌≡◌, ℕ, zero, suc, ◌+◌, ◌<◌, Bool, nat_lt, if◌then◌else◌, List, [], ◌++◌, length, slice_index_or, All}
use Rattle.std.specs.declared.cmp.Ordering.{Ordering}
use Rattle.std.specs.Ordering.{nat_cmp}
use Rattle.std.specs.Cmp.Lexicographic.{slice_cmp}
use Rattle.ltl_spec.specs.Collections.Sets.{IsRising, has}

-- a name is its bytes, and names compare by them
abbrev pub Name : Type 0
Name = List ℕ

abbrev pub name_cmp : Name → Name → Ordering
name_cmp = slice_cmp nat_cmp

-- a letter is the set of the names that are true
abbrev pub Letter : Type 0
Letter = List Name

-- the letters of the stem, then those of the cycle for ever
pub record Lasso : Type 0 where
  pub stem : List Letter
  pub cycle : List Letter

-- the letters are sets, and the cycle isn't empty
pub record IsLasso (w : Lasso) : Type 0 where
  pub sets : All (IsRising name_cmp) (w.stem ++ w.cycle)
  pub cycles : 0 < length w.cycle

-- the positions are those of the stem followed by the cycle
abbrev pub letter_at : Lasso → ℕ → Letter
letter_at w i = slice_index_or (w.stem ++ w.cycle) i []

-- after the last position comes the first of the cycle
abbrev pub next : Lasso → ℕ → ℕ
next w i = if nat_lt (i + 1) (length (w.stem ++ w.cycle)) then i + 1 else length w.stem

-- where k steps lead
abbrev pub after_steps : (ℕ → ℕ) → ℕ → ℕ → ℕ
after_steps step zero i = i
after_steps step (suc k) i = after_steps step k (step i)

-- the letter after k steps from the beginning
abbrev pub letter_after : Lasso → ℕ → Letter
letter_after w k = letter_at w (after_steps (next w) k 0)

-- the letters agree after every number of steps
abbrev pub IsSameWord : Lasso → Lasso → Type 0
IsSameWord v w = (k : ℕ) → letter_after v k ≡ letter_after w k

-- whether proposition p is true at position i
abbrev pub is_true_at : List Name → Lasso → ℕ → ℕ → Bool
is_true_at names w i p = has name_cmp (slice_index_or names p []) (letter_at w i)
