-- Texts that go out piece by piece.
use Rattle.std.proofs.Common.{◌≡◌, ◌∙◌, ap, sym, refl, subst, ℕ, zero, suc, ◌+◌, ◌<◌, ◌≤◌, arith, true, false, List, [], ◌∷◌, ◌++◌, length, map, take, drop, append_assoc, append-nil}
use Rattle.std.specs.Prelude.{◌==◌, if◌then◌else◌, slice_index_or, codes, flat_map}
use Rattle.std.proofs.lemmas.Bool.Decides.{nat_tests}
use Rattle.std.proofs.Math.ListN.{drop_of_length-le}
use Rattle.std.proofs.lemmas.List.{drop_more}
use Rattle.ltl_spec.specs.Collections.Lists.{joined_by}
use Rattle.ltl_spec.specs.Words.LassoText.{letter_text, lasso_text}
use Rattle.ltl_spec.specs.Semantics.Word.{Name, Letter, Lasso}
use Rattle.std.specs.List.{AllByRecursion}
use Rattle.ltl_spec.proofs.Collections.SetLaws.{all_at}
use Rattle.ltl_spec.proofs.Collections.ListLaws.{Has-at}
use Rattle.ltl_spec.proofs.Hoa.SpelledStates.{joined_pieces}
use Rattle.ltl_word.specs.LassoView.{letter_of, lasso_of}

-- pieces in a row, the first behind one text, each other one behind another
abbrev pub led : List ℕ → List ℕ → List (List ℕ) → List ℕ
led first between [] = []
led first between (x ∷ xs) = first ++ (x ++ led between between xs)

led_others : (between : List ℕ) (xs : List (List ℕ)) → flat_map (λ x. between ++ x) xs ≡ led between between xs
led_others between [] = refl
led_others between (x ∷ xs) = append_assoc between x (flat_map (λ y. between ++ y) xs) ∙ ap (λ t. between ++ (x ++ t)) (led_others between xs)

joined_led : (between : List ℕ) (xs : List (List ℕ)) → joined_by between xs ≡ led [] between xs
joined_led between [] = refl
joined_led between (x ∷ xs) = joined_pieces between x xs ∙ ap (λ t. x ++ t) (led_others between xs)

-- ---- the names of a letter
pub names_begin : (l : Letter) → letter_text l ≡ codes "{" ++ (led [] (codes ",") l ++ codes "}")
names_begin l = append_assoc (codes "{") (joined_by (codes ",") l) (codes "}") ∙ ap (λ t. codes "{" ++ (t ++ codes "}")) (joined_led (codes ",") l)

module _ (names : List Name) (between : List ℕ) where
  pub names_go_on : (places : List ℕ) (p : ℕ) (ps : List ℕ) (name : Name) → places ≡ p ∷ ps → slice_index_or names p [] ≡ name
      → led between (codes ",") (letter_of names places) ++ codes "}" ≡ between ++ (name ++ (led (codes ",") (codes ",") (letter_of names ps) ++ codes "}"))
  names_go_on places p ps name e f =
      let rest = led (codes ",") (codes ",") (letter_of names ps) in
      ap (λ qs. led between (codes ",") (letter_of names qs) ++ codes "}") e
      ∙ ap (λ n. (between ++ (n ++ rest)) ++ codes "}") f
      ∙ append_assoc between (name ++ rest) (codes "}")
      ∙ ap (λ t. between ++ t) (append_assoc name rest (codes "}"))

  pub names_end : (places : List ℕ) → places ≡ [] → led between (codes ",") (letter_of names places) ++ codes "}" ≡ codes "}"
  names_end places e = ap (λ qs. led between (codes ",") (letter_of names qs) ++ codes "}") e

-- ---- the letters of a word
abbrev separator : ℕ → List ℕ
separator i = if i == 0 then [] else codes "; "

abbrev pub front_text : ℕ → ℕ → List ℕ
front_text i stem = separator i ++ (if i == stem then codes "cycle " else [])

moved : (front letter stem cycle : List ℕ)
    → (front ++ []) ++ (letter ++ (codes "; " ++ ((stem ++ codes "cycle ") ++ cycle))) ≡ front ++ ((((letter ++ codes "; ") ++ stem) ++ codes "cycle ") ++ cycle)
moved front letter stem cycle =
    ap (λ t. t ++ (letter ++ (codes "; " ++ ((stem ++ codes "cycle ") ++ cycle)))) (append-nil front)
    ∙ ap (λ t. front ++ t) (sym (append_assoc letter (codes "; ") ((stem ++ codes "cycle ") ++ cycle)) ∙ sym (append_assoc (letter ++ codes "; ") (stem ++ codes "cycle ") cycle) ∙ ap (λ t. t ++ cycle) (sym (append_assoc (letter ++ codes "; ") stem (codes "cycle "))))

pub row_inside : (P : List ℕ → Type 0) (rows : List (List ℕ)) (row : List ℕ) (i : ℕ) → AllByRecursion P rows → i < length rows → row ≡ slice_index_or rows i row → P row
row_inside P rows row i h l e = subst P (sym e) (all_at P rows (slice_index_or rows i row) h (Has-at rows i row l))

module _ (names : List Name) where
  -- the letters from the one with this number
  abbrev pub letters_from : ℕ → ℕ → List (List ℕ) → List ℕ
  letters_from stem i [] = []
  letters_from stem i (r ∷ rs) = front_text i stem ++ (letter_text (letter_of names r) ++ letters_from stem (i + 1) rs)

  cycle_from : (stem i : ℕ) (rows : List (List ℕ)) → stem < i → letters_from stem i rows ≡ led (codes "; ") (codes "; ") (map letter_text (map (letter_of names) rows))
  cycle_from stem i [] l = refl
  cycle_from stem i (r ∷ rs) l =
      let e : (i == 0) ≡ false = grind (arith, nat_tests, l) in
      let f : (i == stem) ≡ false = grind (arith, nat_tests, l) in
      rw (e, f) (ap (λ t. codes "; " ++ (letter_text (letter_of names r) ++ t)) (cycle_from stem (i + 1) rs (omega (arith, l))))

  -- of the letters from this number, the first k are of the stem
  word_from : (stem i k : ℕ) (rows : List (List ℕ)) → stem ≡ i + k → k < length rows → letters_from stem i rows ≡ separator i ++ lasso_text (lasso_of names rows k)
  word_from stem i k [] e l = absurd (omega (arith, l))
  word_from stem i zero (r ∷ rs) e l =
      let f : (i == stem) ≡ true = grind (arith, nat_tests, e) in
      let more = cycle_from stem (i + 1) rs (omega (arith, e)) in
      let a = letter_text (letter_of names r) in
      rw (f) (append_assoc (separator i) (codes "cycle ") (a ++ letters_from stem (i + 1) rs)
      ∙ ap (λ t. separator i ++ (codes "cycle " ++ t)) (ap (λ t. a ++ t) more ∙ sym (joined_led (codes "; ") (a ∷ map letter_text (map (letter_of names) rs)))))
  word_from stem i (suc k) (r ∷ rs) e l =
      let f : (i == stem) ≡ false = grind (arith, nat_tests, e) in
      let g : (i + 1 == 0) ≡ false = grind (arith, nat_tests) in
      let more = word_from stem (i + 1) k rs (omega (arith, e)) (omega (arith, l)) in
      let a = letter_text (letter_of names r) in
      let later : letters_from stem (i + 1) rs ≡ codes "; " ++ lasso_text (lasso_of names rs k) = rw (g) at more in
      let stem_text = flat_map (λ b. letter_text b ++ codes "; ") (map (letter_of names) (take k rs)) in
      let cycle_text = joined_by (codes "; ") (map letter_text (map (letter_of names) (drop k rs))) in
      rw (f, later) (moved (separator i) a stem_text cycle_text)

  module _ (rows : List (List ℕ)) (stem : ℕ) where
    pub letters_begin : (w : Lasso) → stem < length rows → lasso_of names rows stem ≡ w → lasso_text w ≡ letters_from stem 0 (drop 0 rows)
    letters_begin w l e = ap lasso_text (sym e) ∙ sym (word_from stem 0 stem rows (omega arith) l) ∙ ap (letters_from stem 0) (none rows)
      where
        none : (rs : List (List ℕ)) → rs ≡ drop 0 rs
        none [] = refl
        none (r ∷ rs) = refl

    pub letters_go_on : (i : ℕ) (row : List ℕ) → i < length rows → row ≡ slice_index_or rows i row
        → letters_from stem i (drop i rows) ≡ front_text i stem ++ (letter_text (letter_of names row) ++ letters_from stem (i + 1) (drop (i + 1) rows))
    letters_go_on i row l e = ap (letters_from stem i) (drop_more rows i row l ∙ ap (λ r. r ∷ drop (i + 1) rows) (sym e))

    pub letters_end : (i : ℕ) → length rows ≤ i → letters_from stem i (drop i rows) ≡ []
    letters_end i l = ap (letters_from stem i) (drop_of_length-le rows l)
