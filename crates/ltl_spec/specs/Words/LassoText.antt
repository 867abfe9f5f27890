-- The text of an ultimately periodic word.
use Rattle.std.specs.Prelude.{◌≡◌, ◌≢◌, ℕ, suc, ◌<◌, IsTrue, List, [], ◌∷◌, ◌++◌, map, flat_map, length, take, replicate, slice_get, Option, Some, None, codes}
use Rattle.std.specs.List.{list_all}
use Rattle.ltl_spec.specs.Collections.Sets.{set_of}
use Rattle.ltl_spec.specs.Collections.Lists.{joined_by}
use Rattle.ltl_spec.specs.Semantics.Word.{Name, name_cmp, Letter, Lasso, IsLasso, IsSameWord}
use Rattle.ltl_spec.specs.Formulas.Names.{is_proposition, unified}

-- the names of a letter, as they stand in the list
abbrev pub letter_text : List Name → List ℕ
letter_text names = codes "{" ++ joined_by (codes ",") names ++ codes "}"

-- The letters of the stem, and then those of the cycle. Where the letters are sets, this is the one text that is printed
abbrev pub lasso_text : Lasso → List ℕ
lasso_text w = flat_map (λ a. letter_text a ++ codes "; ") w.stem ++ codes "cycle " ++ joined_by (codes "; ") (map letter_text w.cycle)

-- all names of the letters
abbrev pub names_in : Lasso → List Name
names_in w = flat_map (λ a. a) (w.stem ++ w.cycle)

-- the names of each letter as a set
abbrev pub with_sets : Lasso → Lasso
with_sets v = record { stem = map (set_of name_cmp) v.stem; cycle = map (set_of name_cmp) v.cycle }

-- The text reads as the word: it writes the names of each letter in some order, also repeatedly
pub record IsLassoText (text : List ℕ) (w : Lasso) : Type 0 where
  pub written : Lasso
  pub propositions : IsTrue (list_all (λ a. list_all is_proposition a) (written.stem ++ written.cycle))
  pub cycles : 0 < length written.cycle
  pub spelled : text ≡ lasso_text written
  pub read : w ≡ with_sets written

-- the bytes begin the text of some word
abbrev pub IsLassoBeginning : List ℕ → Type 0
IsLassoBeginning bytes = (rest : List ℕ) × (w : Lasso) × IsLassoText (bytes ++ rest) w

-- the byte at the place fits to no beginning, or the text ends there and is no word's
abbrev pub StopsAt : List ℕ → ℕ → Option ℕ → Type 0
StopsAt text place (Some byte) = ¬ (IsLassoBeginning (take (suc place) text))
StopsAt text place None = (place ≡ length text) × ((w : Lasso) → ¬ (IsLassoText text w))

-- The text is no word's, and this is the place of its fault: the first byte such that no text of a word begins with the bytes up to
-- and including it, or the length of a text that is a beginning only
pub record IsBadWord (text : List ℕ) (place : ℕ) : Type 0 where
  pub begins : IsLassoBeginning (take place text)
  pub stops : StopsAt text place (slice_get text place)

-- the list is n times the other one
abbrev pub repeated : {K : Type 0} → ℕ → List K → List K
repeated n xs = flat_map (λ ys. ys) (replicate n xs)

-- x is the last element
abbrev pub EndsWith : {K : Type 0} → List K → K → Type 0
EndsWith {K} xs x = (before : List K) × (xs ≡ before ++ x ∷ [])

-- the cycle repeats no shorter list, and the stem doesn't end as the cycle does
pub record IsLeast (w : Lasso) : Type 0 where
  pub shortest : (n : ℕ) (xs : List Letter) → length xs < length w.cycle → w.cycle ≢ repeated n xs
  pub differs : (a : Letter) → EndsWith w.stem a → ¬ (EndsWith w.cycle a)

-- w is the least form of the word
pub record IsLeastForm (v w : Lasso) : Type 0 where
  pub lasso : IsLasso w
  pub same : IsSameWord v w
  pub least : IsLeast w

-- the names, with those of the word, are more than so many
abbrev pub HasTooManyNames : ℕ → List Name → Lasso → Type 0
HasTooManyNames most names w = most < length (unified names (names_in w))
