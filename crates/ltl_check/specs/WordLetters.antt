-- The letters of a word, as sets of the numbers of some names.
use Rattle.std.specs.Prelude.{◌≡◌, ℕ, ◌<◌, Bool, true, List, [], length, if◌then◌else◌, slice_index_or}
use Rattle.std.specs.Ordering.{nat_cmp}
use Rattle.ltl_spec.specs.Collections.Sets.{has, put}
use Rattle.ltl_spec.specs.Semantics.Word.{Lasso, Name, is_true_at}
use Rattle.ltl_word.specs.LassoView.{size}
use Rattle.ltl_word.specs.Rows.{bit_of}

abbrev pub letter_in : List (List ℕ) → ℕ → List ℕ
letter_in letters i = slice_index_or letters i []

-- the set with the number added if the flag says so
abbrev pub put_if : Bool → ℕ → List ℕ → List ℕ
put_if b p letter = if b then put nat_cmp p letter else letter

-- the number was added to the letters of a row's positions
pub record IsPut (row : List ℕ) (p : ℕ) (old new : List (List ℕ)) : Type 0 where
  pub long : length new ≡ length old
  pub letters : (i : ℕ) → i < length old → letter_in new i ≡ put_if (bit_of row i) p (letter_in old i)

-- the letters hold the numbers of those of the first n names that are true at their positions
pub record AreLettersTo (names : List Name) (w : Lasso) (n : ℕ) (letters : List (List ℕ)) : Type 0 where
  pub long : length letters ≡ size w
  pub among : (i p : ℕ) → i < size w → has nat_cmp p (letter_in letters i) ≡ true → p < n
  pub truth : (i p : ℕ) → i < size w → p < n → has nat_cmp p (letter_in letters i) ≡ is_true_at names w i p

abbrev pub AreLetters : List Name → Lasso → List (List ℕ) → Type 0
AreLetters names w letters = AreLettersTo names w (length names) letters
