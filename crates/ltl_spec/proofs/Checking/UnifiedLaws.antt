-- The unified list of two lists of names has each name of both.
use Rattle.std.proofs.Common.{◌≡◌, ℕ, zero, suc, ◌<◌, Bool, true, false, cond, inl, inr, List, [], ◌∷◌, ◌++◌, length, refl, sym, ◌∙◌, ap, subst, arith, append_assoc}
use Rattle.std.specs.Prelude.{slice_index_or, fold}
use Rattle.std.specs.Bool.{Decides}
use Rattle.std.specs.List.{list_any}
use Rattle.std.proofs.lemmas.List.{append-nil, get_or_append_left}
use Rattle.std.proofs.lemmas.List.Sums.{fold-append}
use Rattle.ltl_spec.specs.Collections.Sets.{Has}
use Rattle.ltl_spec.specs.Collections.Lists.{HasNoRepeats, with_new, first_occurrences}
use Rattle.ltl_spec.specs.Semantics.Word.{Name}
use Rattle.ltl_spec.specs.Formulas.Tokens.{same_name}
use Rattle.ltl_spec.specs.Formulas.Names.{unified}
use Rattle.ltl_spec.specs.Checking.Product.{unified_number}
use Rattle.ltl_spec.proofs.Collections.SetLaws.{append_cases, append_right}
use Rattle.ltl_spec.proofs.Collections.ListLaws.{any_Decides, Has-at, at_place, Has-first_occurrences, HasNoRepeats-first_occurrences, place_below}
use Rattle.ltl_spec.proofs.Automata.ListingLaws.{fold_behind}
use Rattle.ltl_spec.proofs.Formulas.NameLaws.{same_name_Decides}

module _ {K : Type 0} (same : K → K → Bool) (decides : (x y : K) → Decides (same x y) (x ≡ y)) where
  -- what isn't there is put behind
  with_new_last : (xs : List K) (x : K) → ¬ (Has xs x) → with_new same xs x ≡ xs ++ x ∷ []
  with_new_last xs x n =
      elim (list_any (same x) xs) as (λ b. Decides b (Has xs x) → cond b xs (xs ++ x ∷ []) ≡ xs ++ x ∷ []) [ true ↦ λ d. absurd (n (d.0 refl)) | false ↦ λ d. refl ]
      (any_Decides same decides x xs)

  -- different new things are put behind one after the other
  fold_all : (ys xs : List K) → HasNoRepeats ys → ((y : K) → Has ys y → ¬ (Has xs y)) → fold (with_new same) xs ys ≡ xs ++ ys
  fold_all [] xs d n = sym (append-nil xs)
  fold_all (y ∷ ys) xs d n =
      ap (λ l. fold (with_new same) l ys) (with_new_last xs y (n y (inl refl)))
      ∙ fold_all ys (xs ++ y ∷ []) d.1 (λ z h k. elim (append_cases xs (y ∷ []) z k) [ inl m ↦ n z (inr h) m | inr m ↦ elim m [ inl e ↦ d.0 (subst (Has ys) e h) | inr b ↦ b ] ])
      ∙ append_assoc xs (y ∷ []) ys

  -- different things begin the list of the different things of a longer list
  pub first_occurrences_begin : (xs ys : List K) → HasNoRepeats xs → (more : List K) × (first_occurrences same (xs ++ ys) ≡ xs ++ more)
  first_occurrences_begin xs ys d =
      let w = fold_behind same ys (fold (with_new same) [] xs) in
      (w.0, fold-append (with_new same) [] xs ys ∙ w.1 ∙ ap (λ l. l ++ w.0) (fold_all xs [] d (λ y h k. k)))

-- the names of an automaton, and those of a formula
module _ (xs ys : List Name) where
  -- the first names keep their numbers
  pub first_names : HasNoRepeats xs → (p : ℕ) → p < length xs → slice_index_or (unified xs ys) p [] ≡ slice_index_or xs p []
  first_names d p l =
      let w = first_occurrences_begin same_name same_name_Decides xs ys d in
      ap (λ ns. slice_index_or ns p []) w.1 ∙ get_or_append_left xs w.0 [] p l

  -- the others are found at their new ones
  Has-second : (p : ℕ) → p < length ys → Has (unified xs ys) (slice_index_or ys p [])
  Has-second p l = Has-first_occurrences same_name same_name_Decides (xs ++ ys) (slice_index_or ys p []) (append_right xs ys (slice_index_or ys p []) (Has-at ys p [] l))

  pub second_names : (p : ℕ) → p < length ys → slice_index_or (unified xs ys) (unified_number xs ys p) [] ≡ slice_index_or ys p []
  second_names p l = at_place same_name same_name_Decides (slice_index_or ys p []) (unified xs ys) [] (Has-second p l)

  -- all numbers are below the number of names, and no name stands twice
  pub second_below : (p : ℕ) → p < length ys → unified_number xs ys p < length (unified xs ys)
  second_below p l = place_below same_name same_name_Decides (slice_index_or ys p []) (unified xs ys) (Has-second p l)

  pub first_below : HasNoRepeats xs → (p : ℕ) → p < length xs → p < length (unified xs ys)
  first_below d p l =
      let w = first_occurrences_begin same_name same_name_Decides xs ys d in
      subst (λ ns. p < length ns) (sym w.1) (longer xs w.0 p l)
    where
      longer : (ns ms : List Name) (q : ℕ) → q < length ns → q < length (ns ++ ms)
      longer [] ms q l = absurd (omega arith)
      longer (n ∷ ns) ms zero l = omega arith
      longer (n ∷ ns) ms (suc q) l = let m = longer ns ms q (omega arith) in omega arith

  pub HasNoRepeats-unified : HasNoRepeats (unified xs ys)
  HasNoRepeats-unified = HasNoRepeats-first_occurrences same_name same_name_Decides (xs ++ ys)
