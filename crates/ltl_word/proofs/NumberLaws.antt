-- Letters that are given as sets of numbers of names.
use Rattle.std.proofs.Common.{take, ◌≡◌, ◌∙◌, ap, ap₂, sym, refl, subst, ℕ, ◌+◌, ◌<◌, ◌≤◌, arith, List, [], ◌∷◌, ◌++◌, length, map}
use Rattle.std.specs.Prelude.{slice_index_or, IsTrue, All}
use Rattle.std.specs.List.{AllByRecursion, list_all}
use Rattle.ltl_spec.specs.Collections.Sets.{Has, set_of}
use Rattle.ltl_spec.specs.Semantics.Word.{Name, name_cmp, Lasso}
use Rattle.ltl_spec.specs.Formulas.Names.{is_proposition}
use Rattle.ltl_spec.specs.Words.LassoText.{with_sets, names_in}
use Rattle.ltl_spec.specs.Tools.Limits.{stated_limits}
use Rattle.ltl_spec.proofs.Collections.SetLaws.{all_at, all_from, append_left, append_right, Has-set_of, IsRising-set_of}
use Rattle.ltl_spec.proofs.Collections.Orders.{name_linear}
use Rattle.ltl_spec.proofs.Collections.ListLaws.{All-at_has, Has-at}
use Rattle.ltl_spec.proofs.Collections.MemberLaws.{all_Decides, map_cases, map_length, flat_map_cases}
use Rattle.std.proofs.lemmas.List.{map-append, get_or-map, take_more}
use Rattle.ltl_word.specs.LassoView.{letter_of, word_with}
use Rattle.ltl_word.specs.NameView.{IsKnown}
use Rattle.ltl_word.proofs.NameLaws.{set_shorter}
use Rattle.ltl_word.specs.WrittenView.{WrittenView, letters_of}

-- one more of a list
pub mapped_push : {X Y Z : Type 0} (d : Z) (f : X → Z) (g : Y → Z) (xs new : List X) (x : X) (ys : List Y) (y : Y) (i : ℕ) → new ≡ xs ++ x ∷ [] → map f xs ≡ take i (map g ys) → f x ≡ g y → i < length ys → slice_index_or ys i y ≡ y
    → map f new ≡ take (i + 1) (map g ys)
mapped_push d f g xs new x ys y i e h q l a =
    let size = map_length g ys in
    ap (map f) e ∙ map-append f xs (x ∷ []) ∙ ap₂ (λ zs z. zs ++ z ∷ []) h (q ∙ sym (get_or-map g ys i y d l ∙ ap g a)) ∙ sym (take_more (map g ys) i d (omega (arith, l, size)))

-- the letters as lists of names
abbrev pub listed : List Name → List (List ℕ) → List (List ℕ) → Lasso
listed names stem cycle = record { stem = map (letter_of names) stem; cycle = map (letter_of names) cycle }

abbrev pub NumbersBelow : ℕ → List (List ℕ) → Type 0
NumbersBelow n rows = AllByRecursion (AllByRecursion (λ i. i < n)) rows

-- the numbers of both parts
pub parts_below : (n : ℕ) (stem cycle : List (List ℕ)) → All (All (λ i. i < n)) (stem ++ cycle) → NumbersBelow n stem × NumbersBelow n cycle
parts_below n stem cycle h = (
  all_from (AllByRecursion (λ i. i < n)) stem (λ r m. row r (append_left stem cycle r m)),
  all_from (AllByRecursion (λ i. i < n)) cycle (λ r m. row r (append_right stem cycle r m)),
)
  where
    row : (r : List ℕ) → Has (stem ++ cycle) r → AllByRecursion (λ i. i < n) r
    row r m = all_from (λ i. i < n) r (λ i k. All-at_has (λ j. j < n) r (All-at_has (All (λ j. j < n)) (stem ++ cycle) h r m) i k)

-- the names are those of the list
listed_names : (names : List Name) (rows : List (List ℕ)) → NumbersBelow (length names) rows → (a : List Name) → Has (map (letter_of names) rows) a → (z : Name) → Has a z → Has names z
listed_names names rows h a m z k =
    let w = map_cases (letter_of names) rows a m in
    let v = map_cases (λ i. slice_index_or names i []) w.0 z (subst (λ b. Has b z) w.2 k) in
    subst (Has names) (sym v.2) (Has-at names v.0 [] (all_at (λ i. i < length names) w.0 v.0 (all_at (AllByRecursion (λ i. i < length names)) rows w.0 h w.1) v.1))

pub listed_known : (names : List Name) (stem cycle : List (List ℕ)) → IsTrue (list_all is_proposition names) → length names ≤ stated_limits.propositions → All (All (λ i. i < length names)) (stem ++ cycle) → 0 < length cycle → IsKnown (set_of name_cmp names) (listed names stem cycle)
listed_known names stem cycle p few within cycles = record {
  sorted = IsRising-set_of name_linear names;
  few = let l = set_shorter names in omega (arith, l, few);
  known = all_from (Has (set_of name_cmp names)) (names_in (listed names stem cycle)) (λ z h.
      let w = flat_map_cases (λ (a : List Name). a) ((listed names stem cycle).stem ++ (listed names stem cycle).cycle) z h in
      Has-set_of name_linear names z (inside w.0 w.1 z w.2));
  spelled = record {
    propositions = (all_Decides (λ a. list_all is_proposition a) ((listed names stem cycle).stem ++ (listed names stem cycle).cycle)).1
        (λ a m. (all_Decides is_proposition a).1 (λ z k. (all_Decides is_proposition names).0 p z (inside a m z k)));
    cycles = let e = map_length (letter_of names) cycle in omega (arith, e, cycles);
  };
}
  where
    below : NumbersBelow (length names) (stem ++ cycle)
    below = (parts_below (length names) (stem ++ cycle) [] (subst (All (All (λ i. i < length names))) (again (stem ++ cycle)) within)).0
      where
        again : (xs : List (List ℕ)) → xs ≡ xs ++ []
        again [] = refl
        again (x ∷ xs) = ap (λ l. x ∷ l) (again xs)

    inside : (a : List Name) → Has ((listed names stem cycle).stem ++ (listed names stem cycle).cycle) a → (z : Name) → Has a z → Has names z
    inside a m z k = listed_names names (stem ++ cycle) below a (subst (λ ls. Has ls a) (sym (map-append (letter_of names) stem cycle)) m) z k

-- as sets they are the word
pub listed_word : (names : List Name) (stem cycle : List (List ℕ)) → with_sets (listed names stem cycle) ≡ word_with names stem cycle
listed_word names stem cycle = let a = both stem in let b = both cycle in λ i. record { stem = a i; cycle = b i }
  where
    both : (rows : List (List ℕ)) → map (set_of name_cmp) (map (letter_of names) rows) ≡ map (λ r. set_of name_cmp (letter_of names r)) rows
    both [] = refl
    both (r ∷ rs) = ap (λ l. set_of name_cmp (letter_of names r) ∷ l) (both rs)

-- what was written
pub written_listed : (names : List Name) (stem cycle : List (List ℕ)) (v : WrittenView) → v.stem ≡ map (letter_of names) stem → v.cycle ≡ map (letter_of names) cycle → letters_of v ≡ listed names stem cycle
written_listed names stem cycle v e f = λ i. record { stem = e i; cycle = f i }

pub written_known : {X : Type 0} (given : List X) (names : List Name) (set : List Name) (stem cycle : List (List ℕ)) (v : WrittenView) → length names ≡ length given → IsTrue (list_all is_proposition names) → length given ≤ stated_limits.propositions
    → All (All (λ i. i < length given)) (stem ++ cycle) → 0 < length cycle → set ≡ set_of name_cmp names → letters_of v ≡ listed names stem cycle → IsKnown set (letters_of v)
written_known given names set stem cycle v size p few within cycles e f =
    subst (λ s. IsKnown s (letters_of v)) (sym e)
    (subst (IsKnown (set_of name_cmp names)) (sym f) (listed_known names stem cycle p (omega (arith, few, size)) (subst (λ n. All (All (λ i. i < n)) (stem ++ cycle)) (sym size) within) cycles))

pub written_word : (names : List Name) (stem cycle : List (List ℕ)) (v : WrittenView) → letters_of v ≡ listed names stem cycle → with_sets (letters_of v) ≡ word_with names stem cycle
written_word names stem cycle v f = ap with_sets f ∙ listed_word names stem cycle
