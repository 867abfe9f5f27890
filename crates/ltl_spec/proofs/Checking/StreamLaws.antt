-- The letters of a lasso one after the other.
use Rattle.std.proofs.Common.{◌≡◌, ℕ, zero, suc, ◌+◌, ◌<◌, ◌≤◌, cond, lt-ltb, inl, inr, List, [], ◌∷◌, ◌++◌, length, refl, sym, ◌∙◌, ap, arith, length-append}
use Rattle.std.specs.Prelude.{slice_index_or, drop}
use Rattle.std.proofs.lemmas.Bool.{cases_lt, le-ltb}
use Rattle.ltl_spec.specs.Semantics.Word.{Letter, Lasso, letter_at, next, after_steps, letter_after}
use Rattle.ltl_spec.specs.Words.LassoText.{repeated}

abbrev pub first_of : List Letter → Letter
first_of [] = []
first_of (x ∷ xs) = x

abbrev pub behind_first : List Letter → List Letter
behind_first [] = []
behind_first (x ∷ xs) = xs

-- the letter after k steps, where these letters are left before the cycle begins anew
abbrev pub stream : List Letter → List Letter → ℕ → Letter
stream cycle [] zero = first_of cycle
stream cycle [] (suc k) = stream cycle (behind_first cycle) k
stream cycle (x ∷ xs) zero = x
stream cycle (x ∷ xs) (suc k) = stream cycle xs k

-- nothing left, or the whole cycle
pub stream_anew : (cycle : List Letter) (k : ℕ) → 0 < length cycle → stream cycle [] k ≡ stream cycle cycle k
stream_anew [] k l = absurd (omega arith)
stream_anew (x ∷ xs) zero l = refl
stream_anew (x ∷ xs) (suc k) l = refl

-- behind what is left the cycle comes
pub stream_on : (cycle xs : List Letter) (k : ℕ) → 0 < length cycle → stream cycle (xs ++ cycle) k ≡ stream cycle xs k
stream_on cycle [] k l = sym (stream_anew cycle k l)
stream_on cycle (x ∷ xs) zero l = refl
stream_on cycle (x ∷ xs) (suc k) l = stream_on cycle xs k l

-- what is left at a place
drop_at : (xs : List Letter) (i : ℕ) → i < length xs → drop i xs ≡ slice_index_or xs i [] ∷ drop (i + 1) xs
drop_at [] i l = absurd (omega arith)
drop_at (x ∷ xs) zero l = refl
drop_at (x ∷ xs) (suc i) l = let e : suc i + 1 ≡ suc (i + 1) = omega arith in drop_at xs i (omega arith) ∙ ap (λ n. slice_index_or xs i [] ∷ drop n (x ∷ xs)) (sym e)

drop_past : (xs : List Letter) (i : ℕ) → length xs ≤ i → drop i xs ≡ []
drop_past [] zero l = refl
drop_past [] (suc i) l = refl
drop_past (x ∷ xs) zero l = absurd (omega arith)
drop_past (x ∷ xs) (suc i) l = drop_past xs i (omega arith)

drop_all : (xs ys : List Letter) → drop (length xs) (xs ++ ys) ≡ ys
drop_all [] ys = refl
drop_all (x ∷ xs) ys = drop_all xs ys

module _ (w : Lasso) (cycles : 0 < length w.cycle) where
  abbrev all : List Letter
  all = w.stem ++ w.cycle

  long : length (w.stem ++ w.cycle) ≡ length w.stem + length w.cycle
  long = length-append w.stem w.cycle

  -- the letters from a position on
  stream_from : (k i : ℕ) → i < length (w.stem ++ w.cycle) → letter_at w (after_steps (next w) k i) ≡ stream w.cycle (drop i (w.stem ++ w.cycle)) k
  stream_from zero i l = ap (λ xs. stream w.cycle xs 0) (sym (drop_at all i l))
  stream_from (suc k) i l = elim (cases_lt (i + 1) (length all)) [
    | inl m ↦
        ap (λ j. letter_at w (after_steps (next w) k j)) (ap (λ t. cond t (i + 1) (length w.stem)) (lt-ltb (i + 1) (length all) m))
        ∙ stream_from k (i + 1) m
        ∙ ap (λ xs. stream w.cycle xs (suc k)) (sym (drop_at all i l))
    | inr m ↦
        ap (λ j. letter_at w (after_steps (next w) k j)) (ap (λ t. cond t (i + 1) (length w.stem)) (le-ltb (i + 1) (length all) m))
        ∙ stream_from k (length w.stem) (omega (arith, long, cycles))
        ∙ ap (λ xs. stream w.cycle xs k) (drop_all w.stem w.cycle)
        ∙ sym (stream_anew w.cycle k cycles)
        ∙ ap (λ xs. stream w.cycle xs k) (sym (drop_past all (i + 1) m))
        ∙ ap (λ xs. stream w.cycle xs (suc k)) (sym (drop_at all i l))
  ]

  -- the word's letters
  pub letter_stream : (k : ℕ) → letter_after w k ≡ stream w.cycle w.stem k
  letter_stream k = stream_from k 0 (omega (arith, long, cycles)) ∙ stream_on w.cycle w.stem k cycles

-- the last letter of what is left and of the cycle can begin the cycle
pub stream_turned : (a : Letter) (cycle xs : List Letter) (k : ℕ) → stream (cycle ++ a ∷ []) (xs ++ a ∷ []) k ≡ stream (a ∷ cycle) xs k
stream_turned a cycle [] zero = refl
stream_turned a cycle [] (suc k) = stream_anew (cycle ++ a ∷ []) k (longer cycle) ∙ stream_turned a cycle cycle k
  where
    longer : (xs : List Letter) → 0 < length (xs ++ a ∷ [])
    longer [] = omega arith
    longer (x ∷ xs) = omega arith
stream_turned a cycle (x ∷ xs) zero = refl
stream_turned a cycle (x ∷ xs) (suc k) = stream_turned a cycle xs k

-- a cycle says the same as its repetition
pub stream_repeated : (x : Letter) (xs : List Letter) (n m : ℕ) (ys : List Letter) (k : ℕ) → stream (repeated (suc n) (x ∷ xs)) (ys ++ repeated m (x ∷ xs)) k ≡ stream (x ∷ xs) ys k
stream_repeated x xs n m (y ∷ ys) zero = refl
stream_repeated x xs n m (y ∷ ys) (suc k) = stream_repeated x xs n m ys k
stream_repeated x xs n zero [] zero = refl
stream_repeated x xs n zero [] (suc k) = stream_repeated x xs n n xs k
stream_repeated x xs n (suc m) [] zero = refl
stream_repeated x xs n (suc m) [] (suc k) = stream_repeated x xs n m xs k
