-- Letters as sets of places.
use Rattle.std.proofs.Common.{◌≡◌, ◌∙◌, ap, sym, refl, subst, ℕ, zero, suc, ◌+◌, ◌/◌, ◌<◌, ◌≤◌, arith, inl, inr, List, [], ◌∷◌, ◌++◌, length, map, take, drop}
use Rattle.std.specs.Prelude.{slice_index_or, ◌≢◌, IsTrue}
use Rattle.std.specs.Bool.{Decides}
use Rattle.std.specs.List.{AllByRecursion}
use Rattle.std.specs.Ordering.{nat_cmp}
use Rattle.std.proofs.lemmas.Bool.{cases_lt}
use Rattle.std.proofs.lemmas.Bool.Decides.{same_from_decides}
use Rattle.std.proofs.lemmas.List.{get_or-map, map-append, take-append-drop}
use Rattle.std.specs.declared.cmp.Ordering.TheVariants.{Less}
use Rattle.ltl_spec.specs.Collections.Sets.{Has, IsRising, has}
use Rattle.ltl_spec.specs.Semantics.Word.{Name, name_cmp, Lasso, letter_at}
use Rattle.ltl_spec.proofs.Collections.SetLaws.{all_at, has_Decides, irreflexive}
use Rattle.ltl_spec.proofs.Collections.ListLaws.{Has-at}
use Rattle.ltl_spec.proofs.Collections.MemberLaws.{Has-map, map_cases, map_length}
use Rattle.ltl_spec.proofs.Collections.Orders.{nat_linear, name_linear}
use Rattle.std.specs.Cmp.Lexicographic.{bytes_decides, pointwise}
use Rattle.std.specs.Prelude.{nat_eq}
use Rattle.ltl_spec.proofs.Collections.CaseLaws.{last_or_below}
use Rattle.ltl_word.specs.Rows.{IsRow, IsRowFrom}
use Rattle.ltl_word.specs.LassoView.{letter_of, lasso_of, size, IsMade}

-- in a sorted list an earlier name is less
pub rising_at : (names : List Name) → IsRising name_cmp names → (i j : ℕ) → i < j → j < length names → name_cmp (slice_index_or names i []) (slice_index_or names j []) ≡ Less
rising_at [] r i j l m = absurd (omega arith)
rising_at (x ∷ xs) r i zero l m = absurd (omega arith)
rising_at (x ∷ xs) r zero (suc j) l m = all_at (λ y. name_cmp x y ≡ Less) xs (slice_index_or xs j []) r.0 (Has-at xs j [] (omega arith))
rising_at (x ∷ xs) r (suc i) (suc j) l m = rising_at xs r.1 i j (omega arith) (omega arith)

-- names at different places differ
pub same_places : (names : List Name) → IsRising name_cmp names → (i j : ℕ) → i < length names → j < length names → slice_index_or names i [] ≡ slice_index_or names j [] → i ≡ j
same_places names r i j l m e = elim (cases_lt i j) [
  | inl a ↦ absurd (irreflexive name_linear (slice_index_or names i []) (slice_index_or names j []) (rising_at names r i j a m) e)
  | inr a ↦ elim (cases_lt j i) [
    | inl b ↦ absurd (irreflexive name_linear (slice_index_or names j []) (slice_index_or names i []) (rising_at names r j i b l) (sym e))
    | inr b ↦ omega arith
  ]
]

-- a name is in a letter just where its place is
pub letter_has : (names : List Name) → IsRising name_cmp names → (places : List ℕ) → AllByRecursion (λ i. i < length names) places → (name : Name) (place : ℕ)
    → (place < length names → slice_index_or names place [] ≡ name) → ((k : ℕ) → k < place → slice_index_or names k [] ≢ name)
    → has nat_cmp place places ≡ has name_cmp name (letter_of names places)
letter_has names r places within name place found earlier =
    same_from_decides (has nat_cmp place places) (has name_cmp name (letter_of names places)) (has_Decides nat_linear place places) (
      (λ e. back ((has_Decides name_linear name (letter_of names places)).0 e)),
      λ h. (has_Decides name_linear name (letter_of names places)).1
          (subst (Has (letter_of names places)) (found (all_at (λ i. i < length names) places place within h)) (Has-map (λ i. slice_index_or names i []) places place h)),
    )
  where
    at : (i : ℕ) → i < length names → name ≡ slice_index_or names i [] → Has places i → Has places place
    at i l e h = elim (cases_lt i place) [
      | inl a ↦ absurd (earlier i a (sym e))
      | inr a ↦ let b : place < length names = omega arith in subst (Has places) (same_places names r i place l b (sym e ∙ sym (found b))) h
    ]

    back : Has (letter_of names places) name → Has places place
    back h = let w = map_cases (λ i. slice_index_or names i []) places name h in at w.0 (all_at (λ i. i < length names) places w.0 within w.1) w.2 w.1

-- the letters of a word
pub whole_letters : (names : List Name) (letters : List (List ℕ)) (stem : ℕ) → (lasso_of names letters stem).stem ++ (lasso_of names letters stem).cycle ≡ map (letter_of names) letters
whole_letters names letters stem = sym (map-append (letter_of names) (take stem letters) (drop stem letters)) ∙ ap (map (letter_of names)) (take-append-drop stem letters)

pub size_is : (names : List Name) (letters : List (List ℕ)) (stem : ℕ) → size (lasso_of names letters stem) ≡ length letters
size_is names letters stem = ap length (whole_letters names letters stem) ∙ map_length (letter_of names) letters

pub letter_is : (names : List Name) (letters : List (List ℕ)) (stem i : ℕ) → i < length letters → letter_at (lasso_of names letters stem) i ≡ letter_of names (slice_index_or letters i [])
letter_is names letters stem i l = ap (λ ls. slice_index_or ls i []) (whole_letters names letters stem) ∙ get_or-map (letter_of names) letters i [] [] l

pub stem_is : (names : List Name) (letters : List (List ℕ)) (stem : ℕ) → stem ≤ length letters → length (lasso_of names letters stem).stem ≡ stem
stem_is names letters stem l = map_length (letter_of names) (take stem letters) ∙ take_size stem letters l
  where
    take_size : (n : ℕ) (xs : List (List ℕ)) → n ≤ length xs → length (take n xs) ≡ n
    take_size zero [] m = refl
    take_size zero (x ∷ xs) m = refl
    take_size (suc n) [] m = absurd (omega arith)
    take_size (suc n) (x ∷ xs) m = ap suc (take_size n xs (omega arith))

pub same_bytes : (m n : List ℕ) → Decides (pointwise nat_eq m n) (m ≡ n)
same_bytes = bytes_decides

-- the row of a name
pub name_row : (names : List Name) (letters : List (List ℕ)) (stem : ℕ) → IsMade names letters stem → (w : Lasso) → lasso_of names letters stem ≡ w → (name : Name) (place : ℕ)
    → (place < length names → slice_index_or names place [] ≡ name) → ((k : ℕ) → k < place → slice_index_or names k [] ≢ name)
    → (i : ℕ) → i ≤ 0 → (row : List ℕ) → IsRowFrom (λ j. has nat_cmp place (slice_index_or letters j [])) i (length letters) row
    → IsRow (size w) (λ j. IsTrue (has name_cmp name (letter_at w j))) row
name_row names letters stem made w e name place found earlier i z row h =
    subst (λ v. IsRow (size v) (λ j. IsTrue (has name_cmp name (letter_at v j))) row) e
    record {
      long = h.long ∙ ap (λ n. n / 64 + 1) (sym (size_is names letters stem));
      decides = λ j l. let within : j < length letters = subst (λ n. j < n) (size_is names letters stem) l in
          let same = h.done j (omega arith) within
          ∙ letter_has names made.sorted (slice_index_or letters j []) (all_at (AllByRecursion (λ k. k < length names)) letters (slice_index_or letters j []) made.within (Has-at letters j [] within)) name place found earlier
          ∙ ap (has name_cmp name) (sym (letter_is names letters stem j within)) in
          ((λ t. sym same ∙ t), λ t. same ∙ t);
    }

-- a name that differs too
pub one_earlier : {X : Type 0} (f : X → Name) (xs : List X) (x : X) (at : ℕ) (name : Name) → at < length xs → slice_index_or xs at x ≡ x → (f x ≡ name → ⊥) → ((k : ℕ) → k < at → slice_index_or (map f xs) k [] ≡ name → ⊥)
    → (k : ℕ) → k < at + 1 → slice_index_or (map f xs) k [] ≡ name → ⊥
one_earlier f xs x at name l e n h k m q =
    let s : at + 1 ≡ suc at = omega arith in
    elim (last_or_below k at (subst (λ b. k < b) s m)) [
      | inl b ↦ h k b q
      | inr b ↦ n (ap f (sym e) ∙ sym (get_or-map f xs at x [] l) ∙ ap (λ j. slice_index_or (map f xs) j []) (sym b) ∙ q)
    ]

pub found_here : {X : Type 0} (f : X → Name) (xs : List X) (x : X) (at : ℕ) → at < length xs → slice_index_or xs at x ≡ x → slice_index_or (map f xs) at [] ≡ f x
found_here f xs x at l e = get_or-map f xs at x [] l ∙ ap f e
