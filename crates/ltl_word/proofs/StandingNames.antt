-- The names of a word, one letter after the other.
use Rattle.std.proofs.Common.{◌≡◌, ◌∙◌, ap, sym, refl, ℕ, zero, suc, ◌+◌, ◌<◌, ◌≤◌, arith, Bor, List, [], ◌∷◌, ◌++◌, append_assoc, append-nil, length, map, drop}
use Rattle.std.specs.Prelude.{flat_map, slice_index_or}
use Rattle.std.proofs.lemmas.List.{drop_more, map-append}
use Rattle.ltl_spec.specs.Semantics.Word.{Name, Lasso}
use Rattle.ltl_spec.specs.Words.LassoText.{names_in}
use Rattle.ltl_word.specs.LassoView.{letter_of, lasso_of}
use Rattle.ltl_word.proofs.LetterLaws.{whole_letters}

abbrev bytes : Bor Name → Name
bytes n = n.now

-- one name of a letter more
pub name_more : (names : List Name) (list new : List (Bor Name)) (o : Bor Name) (places : List ℕ) (p : ℕ) (ps : List ℕ) (whole : List Name) → places ≡ p ∷ ps → slice_index_or names p [] ≡ o.now → new ≡ list ++ o ∷ []
    → map bytes list ++ letter_of names places ≡ whole → map bytes new ++ letter_of names ps ≡ whole
name_more names list new o places p ps whole e f g h =
    ap (λ ms. map bytes ms ++ letter_of names ps) g
    ∙ ap (λ xs. xs ++ letter_of names ps) (map-append bytes list (o ∷ []))
    ∙ append_assoc (map bytes list) (o.now ∷ []) (letter_of names ps)
    ∙ ap (λ x. map bytes list ++ (x ∷ letter_of names ps)) (sym f)
    ∙ ap (λ qs. map bytes list ++ letter_of names qs) (sym e)
    ∙ h

module _ (names : List Name) (rows : List (List ℕ)) where
  pub names_begin : flat_map (letter_of names) (drop 0 rows) ≡ flat_map (letter_of names) rows
  names_begin = ap (flat_map (letter_of names)) (none rows)
    where
      none : (rs : List (List ℕ)) → drop 0 rs ≡ rs
      none [] = refl
      none (r ∷ rs) = refl

  -- one letter more
  pub letter_more : (i : ℕ) (row : List ℕ) (now then whole : List Name) → i < length rows → row ≡ slice_index_or rows i row → then ≡ now ++ letter_of names row
      → now ++ flat_map (letter_of names) (drop i rows) ≡ whole → then ++ flat_map (letter_of names) (drop (i + 1) rows) ≡ whole
  letter_more i row now then whole l e f h =
      ap (λ t. t ++ flat_map (letter_of names) (drop (i + 1) rows)) f
      ∙ append_assoc now (letter_of names row) (flat_map (letter_of names) (drop (i + 1) rows))
      ∙ ap (λ x. now ++ (letter_of names x ++ flat_map (letter_of names) (drop (i + 1) rows))) e
      ∙ ap (λ ys. now ++ flat_map (letter_of names) ys) (sym (drop_more rows i row l))
      ∙ h

  pub names_whole : (i stem : ℕ) (now : List Name) (w : Lasso) → length rows ≤ i → lasso_of names rows stem ≡ w → now ++ flat_map (letter_of names) (drop i rows) ≡ flat_map (letter_of names) rows → now ≡ names_in w
  names_whole i stem now w l e h =
      sym (append-nil now) ∙ ap (λ ys. now ++ flat_map (letter_of names) ys) (sym (behind rows i l)) ∙ h
      ∙ sym (mapped rows) ∙ ap (flat_map (λ a. a)) (sym (whole_letters names rows stem)) ∙ ap names_in e
    where
      behind : (rs : List (List ℕ)) (k : ℕ) → length rs ≤ k → drop k rs ≡ []
      behind [] zero m = refl
      behind [] (suc k) m = refl
      behind (r ∷ rs) zero m = absurd (omega (arith, m))
      behind (r ∷ rs) (suc k) m = behind rs k (omega (arith, m))

      mapped : (rs : List (List ℕ)) → flat_map (λ (a : List Name). a) (map (letter_of names) rs) ≡ flat_map (letter_of names) rs
      mapped [] = refl
      mapped (r ∷ rs) = ap (λ t. letter_of names r ++ t) (mapped rs)
