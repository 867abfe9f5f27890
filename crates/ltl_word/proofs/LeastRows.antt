-- The least form of a word whose letters are sets of places.
use Rattle.std.proofs.Common.{◌≡◌, ◌∙◌, ap, ap₂, sym, refl, subst, ℕ, zero, suc, ◌+◌, ◌-◌, ◌*◌, ◌/◌, ◌%◌, ◌<◌, ◌≤◌, arith, Bool, true, false, cond, inl, inr, List, [], ◌∷◌, ◌++◌, length, map, take, drop, suc-mul}
use Rattle.std.specs.Prelude.{slice_index_or, ◌≢◌}
use Rattle.std.specs.List.{AllByRecursion, list_all}
use Rattle.std.specs.Ordering.{nat_cmp}
use Rattle.std.proofs.lemmas.Bool.{cases_lt, and_from}
use Rattle.std.proofs.lemmas.List.{get_or-map, take-map, drop-map, take-take, drop-take, ext_get_or, length-take-le, take_more, take_all as taken_whole, get_or-take, get_or-drop, drop_more, get_or-append-add}
use Rattle.std.proofs.lemmas.Nat.{div-add-mod', mod-mul-add, mod_below}
use Rattle.ltl_spec.specs.Collections.Sets.{Has, IsRising, put, set_of}
use Rattle.ltl_spec.specs.Semantics.Word.{Name, name_cmp, Letter, Lasso, IsLasso}
use Rattle.ltl_spec.specs.Formulas.Names.{is_proposition}
use Rattle.ltl_spec.specs.Words.LassoText.{repeated, IsLeastForm}
use Rattle.ltl_spec.specs.Words.LeastForm.{same_letter, first_from, repeats, shortest_cycle, last_is, without_last, put_first, put_all, least_form}
use Rattle.ltl_spec.proofs.Collections.CaseLaws.{here_or_above, left_true, right_true}
use Rattle.ltl_spec.proofs.Collections.SetLaws.{all_at, all_from, set_of_cases, set_of_same, IsRising-set_of}
use Rattle.ltl_spec.proofs.Collections.ListLaws.{All-from_has, Has-at, index_append}
use Rattle.ltl_spec.proofs.Collections.MemberLaws.{map_cases, map_length}
use Rattle.ltl_spec.proofs.Collections.Orders.{nat_linear, name_linear}
use Rattle.ltl_spec.proofs.Words.LeastLaws.{same_letter_Decides, same_letters_Decides, least_form_is, repeated_length}
use Rattle.ltl_word.specs.LassoView.{letter_of, lasso_of, IsMade}
use Rattle.ltl_word.specs.LeastView.{Repeats, IsShortest, IsKept}
use Rattle.ltl_word.proofs.LetterLaws.{same_places, whole_letters}
use Rattle.ltl_word.proofs.NameLaws.{places_put}

-- repetitions by places

module _ {X : Type 0} where
  drop_size : (xs : List X) (n : ℕ) → n ≤ length xs → length (drop n xs) + n ≡ length xs
  drop_size [] zero l = refl
  drop_size [] (suc n) l = absurd (omega arith)
  drop_size (x ∷ xs) zero l = omega arith
  drop_size (x ∷ xs) (suc n) l = let e = drop_size xs n (omega arith) in omega (arith, e)

  take_has : (n : ℕ) (xs : List X) (b : X) → Has (take n xs) b → Has xs b
  take_has zero [] b h = absurd h
  take_has zero (x ∷ xs) b h = absurd h
  take_has (suc n) [] b h = absurd h
  take_has (suc n) (x ∷ xs) b (inl q) = inl q
  take_has (suc n) (x ∷ xs) b (inr h) = inr (take_has n xs b h)

  take_all : (p : X → Bool) (n : ℕ) (xs : List X) → list_all p xs ≡ true → list_all p (take n xs) ≡ true
  take_all p zero [] h = refl
  take_all p zero (x ∷ xs) h = refl
  take_all p (suc n) [] h = refl
  take_all p (suc n) (x ∷ xs) h = and_from (p x) (list_all p (take n xs)) (left_true (p x) (list_all p xs) h) (take_all p n xs (right_true (p x) (list_all p xs) h))

mod_small : (i m : ℕ) → i < m → i % m ≡ i
mod_small i m l = let e : i ≡ 0 * m + i = omega arith in ap (λ k. k % m) e ∙ mod-mul-add 0 m i l

mod_more : (j m : ℕ) → 0 < m → (m + j) % m ≡ j % m
mod_more j m l =
    let whole = div-add-mod' j m in
    let more : m + j ≡ suc (j / m) * m + j % m = let s = suc-mul (j / m) m in omega (arith, whole, s) in
    ap (λ k. k % m) more ∙ mod-mul-add (suc (j / m)) m (j % m) (mod_below j m l)

repeated_at : (n : ℕ) (ys : List Letter) (i : ℕ) → 0 < length ys → i < n * length ys → slice_index_or (repeated n ys) i [] ≡ slice_index_or ys (i % length ys) []
repeated_at zero ys i some l = let z : 0 * length ys ≡ 0 = omega arith in absurd (omega (arith, l, z))
repeated_at (suc n) ys i some l = elim (cases_lt i (length ys)) [
  | inl b ↦ index_append ys (repeated n ys) i [] b ∙ ap (λ k. slice_index_or ys k []) (sym (mod_small i (length ys) b))
  | inr b ↦
      let s = suc-mul n (length ys) in
      let here : i ≡ length ys + (i - length ys) = omega (arith, b) in
      let within : i - length ys < n * length ys = omega (arith, l, s, b) in
      ap (λ k. slice_index_or (repeated (suc n) ys) k []) here
      ∙ get_or-append-add ys (repeated n ys) (i - length ys) []
      ∙ repeated_at n ys (i - length ys) some within
      ∙ ap (λ k. slice_index_or ys k []) (sym (mod_more (i - length ys) (length ys) some) ∙ ap (λ k. k % length ys) (sym here))
]

-- the letters are the first d of them, over and over
abbrev RepeatsLetters : List Letter → ℕ → Type 0
RepeatsLetters xs d = (length xs % d ≡ 0) × ((i : ℕ) → i < length xs → slice_index_or xs i [] ≡ slice_index_or xs (i % d) [])

repeats_if : (xs : List Letter) (d : ℕ) → 0 < d → d ≤ length xs → RepeatsLetters xs d → repeats xs d ≡ true
repeats_if xs d some most h =
    let size : length (take d xs) ≡ d = length-take-le d xs most in
    let whole = div-add-mod' (length xs) d in
    let times : length xs ≡ length xs / d * d = let z = h.0 in omega (arith, whole, z) in
    let count : length (repeated (length xs / d) (take d xs)) ≡ length xs = repeated_length (length xs / d) (take d xs) ∙ ap (λ k. length xs / d * k) size ∙ sym times in
    (same_letters_Decides xs (repeated (length xs / d) (take d xs))).1
    (ext_get_or [] xs (repeated (length xs / d) (take d xs)) (sym count) (λ i l.
    let below = mod_below i d some in
    let within : i < length xs / d * length (take d xs) = subst (λ k. i < length xs / d * k) (sym size) (subst (λ k. i < k) times l) in
    h.1 i l
    ∙ sym (get_or-take d xs (i % d) [] below)
    ∙ ap (λ k. slice_index_or (take d xs) (i % k) []) (sym size)
    ∙ sym (repeated_at (length xs / d) (take d xs) i (subst (λ k. 0 < k) (sym size) some) within)))

repeats_only : (xs : List Letter) (d : ℕ) → 0 < d → d ≤ length xs → repeats xs d ≡ true → RepeatsLetters xs d
repeats_only xs d some most h =
    let size : length (take d xs) ≡ d = length-take-le d xs most in
    let same : xs ≡ repeated (length xs / d) (take d xs) = (same_letters_Decides xs (repeated (length xs / d) (take d xs))).0 h in
    let whole = div-add-mod' (length xs) d in
    let times : length xs ≡ length xs / d * d = ap length same ∙ repeated_length (length xs / d) (take d xs) ∙ ap (λ k. length xs / d * k) size in (
      omega (arith, whole, times),
      λ i l. let below = mod_below i d some in
          let within : i < length xs / d * length (take d xs) = subst (λ k. i < length xs / d * k) (sym size) (subst (λ k. i < k) times l) in
          ap (λ ys. slice_index_or ys i []) same
          ∙ repeated_at (length xs / d) (take d xs) i (subst (λ k. 0 < k) (sym size) some) within
          ∙ ap (λ k. slice_index_or (take d xs) (i % k) []) size
          ∙ get_or-take d xs (i % d) [] below,
    )

-- the first that passes

first_is : (p : ℕ → Bool) (n e d : ℕ) → e ≤ d → d ≤ e + n → ((k : ℕ) → e ≤ k → k < d → p k ≡ false) → (d < e + n → p d ≡ true) → first_from p n e ≡ d
first_is p zero e d l m before here = omega arith
first_is p (suc n) e d l m before here = elim (here_or_above e d l) [
  | inl q ↦ ap (λ b. cond b e (first_from p n (e + 1))) (ap p q ∙ here (omega (arith, q))) ∙ q
  | inr b ↦ ap (λ t. cond t e (first_from p n (e + 1))) (before e (omega arith) (omega (arith, b))) ∙ first_is p n (e + 1) d b (omega arith) (λ k i j. before k (omega (arith, i)) j) (λ i. here (omega (arith, i)))
]

-- letters and their places

module _ (names : List Name) (rise : IsRising name_cmp names) where
  abbrev Within : List ℕ → Type 0
  Within row = AllByRecursion (λ i. i < length names) row

  letters_same : (r s : List ℕ) → Within r → Within s → letter_of names r ≡ letter_of names s → r ≡ s
  letters_same [] [] a b e = refl
  letters_same [] (y ∷ ys) a b e = cc
  letters_same (x ∷ xs) [] a b e = cc
  letters_same (x ∷ xs) (y ∷ ys) a b e = ap₂ (λ z zs. z ∷ zs) (same_places names rise x y a.0 b.0 (cc)) (letters_same xs ys a.1 b.1 (cc))

  letter_set : (r : List ℕ) → Within r → letter_of names (set_of nat_cmp r) ≡ set_of name_cmp (letter_of names r)
  letter_set [] a = refl
  letter_set (x ∷ xs) a =
      places_put names rise x (set_of nat_cmp xs) a.0 (all_from (λ i. i < length names) (set_of nat_cmp xs) (λ z h. all_at (λ i. i < length names) xs z a.1 (set_of_cases nat_linear xs z h)))
      ∙ ap (put name_cmp (slice_index_or names x [])) (letter_set xs a.1)

  letter_rises : (r : List ℕ) → IsRising nat_cmp r → Within r → IsRising name_cmp (letter_of names r)
  letter_rises r s a = subst (IsRising name_cmp) (sym (letter_set r a) ∙ ap (letter_of names) (set_of_same nat_linear r s)) (IsRising-set_of name_linear (letter_of names r))

  module _ (rows : List (List ℕ)) (within : AllByRecursion Within rows) where
    row_within : (i : ℕ) → i < length rows → Within (slice_index_or rows i [])
    row_within i l = all_at Within rows (slice_index_or rows i []) within (Has-at rows i [] l)

    abbrev letters : List Letter
    letters = map (letter_of names) rows

    at_letter : (i : ℕ) → i < length rows → slice_index_or letters i [] ≡ letter_of names (slice_index_or rows i [])
    at_letter i l = get_or-map (letter_of names) rows i [] [] l

    rows_to_letters : (i j : ℕ) → i < length rows → j < length rows → slice_index_or rows i [] ≡ slice_index_or rows j [] → slice_index_or letters i [] ≡ slice_index_or letters j []
    rows_to_letters i j l m e = at_letter i l ∙ ap (letter_of names) e ∙ sym (at_letter j m)

    letters_to_rows : (i j : ℕ) → i < length rows → j < length rows → slice_index_or letters i [] ≡ slice_index_or letters j [] → slice_index_or rows i [] ≡ slice_index_or rows j []
    letters_to_rows i j l m e = letters_same (slice_index_or rows i []) (slice_index_or rows j []) (row_within i l) (row_within j m) (sym (at_letter i l) ∙ e ∙ at_letter j m)

    letters_count : length letters ≡ length rows
    letters_count = map_length (letter_of names) rows

    earlier : (i d : ℕ) → 0 < d → d ≤ length rows → i % d < length rows
    earlier i d some most = let b = mod_below i d some in omega (arith, b, most)

    -- the letters repeat as the rows do
    repeats_rows : (d : ℕ) → 0 < d → d ≤ length rows → Repeats rows d → repeats letters d ≡ true
    repeats_rows d some most h =
        repeats_if letters d some (subst (λ n. d ≤ n) (sym letters_count) most) (
          ap (λ n. n % d) letters_count ∙ h.0,
          λ i l. let m : i < length rows = omega (arith, l, letters_count) in rows_to_letters i (i % d) m (earlier i d some most) (h.1 i m),
        )

    repeats_not : (d : ℕ) → 0 < d → d ≤ length rows → ¬ (Repeats rows d) → repeats letters d ≡ false
    repeats_not d some most n = elim (repeats letters d) as (λ b. repeats letters d ≡ b → b ≡ false) [
      | true ↦ λ e. let h = repeats_only letters d some (subst (λ k. d ≤ k) (sym letters_count) most) e in
          absurd (n (
            ap (λ k. k % d) (sym letters_count) ∙ h.0,
            λ i l. letters_to_rows i (i % d) l (earlier i d some most) (h.1 i (omega (arith, l, letters_count))),
          ))
      | false ↦ λ e. refl
    ] refl

    shortest_is : (d : ℕ) → 0 < length rows → IsShortest rows d → shortest_cycle letters ≡ take d letters
    shortest_is d some h =
        let l = h.some in
        let m = h.most in
        ap (λ n. take n letters)
        (first_is (repeats letters) (length letters - 1) 1 d (omega (arith, l)) (omega (arith, m, some, letters_count))
        (λ k i j. repeats_not k (omega (arith, i)) (omega (arith, j, m)) (h.earlier k (omega (arith, i)) j))
        (λ i. let below : d < length rows = omega (arith, i, some, letters_count) in repeats_rows d l m (h.here below)))

-- letters of the stem that the cycle takes over

last_of_end : (a b : Letter) (c : List Letter) → last_is a (c ++ b ∷ []) ≡ same_letter a b
last_of_end a b [] = refl
last_of_end a b (x ∷ []) = refl
last_of_end a b (x ∷ y ∷ ys) = last_of_end a b (y ∷ ys)

without_end : (b : Letter) (c : List Letter) → without_last (c ++ b ∷ []) ≡ c
without_end b [] = refl
without_end b (x ∷ []) = refl
without_end b (x ∷ y ∷ ys) = ap (λ l. x ∷ l) (without_end b (y ∷ ys))

abbrev word_of : List Letter → List Letter → Lasso
word_of stem cycle = record { stem = stem; cycle = cycle }

put_turned : (xs c : List Letter) (a b : Letter) → a ≡ b → put_all (xs ++ a ∷ []) (c ++ b ∷ []) ≡ put_all xs (a ∷ c)
put_turned [] c a b e =
    ap (λ t. cond t (word_of [] (a ∷ without_last (c ++ b ∷ []))) (word_of (a ∷ []) (c ++ b ∷ []))) (last_of_end a b c ∙ (same_letter_Decides a b).1 e)
    ∙ ap (λ l. word_of [] (a ∷ l)) (without_end b c)
put_turned (x ∷ xs) c a b e = ap (λ (w : Lasso). put_first x w.stem w.cycle) (put_turned xs c a b e)

put_left : (xs c : List Letter) (a b : Letter) → a ≢ b → put_all (xs ++ a ∷ []) (c ++ b ∷ []) ≡ word_of (xs ++ a ∷ []) (c ++ b ∷ [])
put_left [] c a b n = ap (λ t. cond t (word_of [] (a ∷ without_last (c ++ b ∷ []))) (word_of (a ∷ []) (c ++ b ∷ []))) (last_of_end a b c ∙ differ (same_letter a b) refl)
  where
    differ : (t : Bool) → same_letter a b ≡ t → same_letter a b ≡ false
    differ true e = absurd (n ((same_letter_Decides a b).0 e))
    differ false e = e
put_left (x ∷ []) c a b n = ap (λ (w : Lasso). put_first x w.stem w.cycle) (put_left [] c a b n)
put_left (x ∷ y ∷ ys) c a b n = ap (λ (w : Lasso). put_first x w.stem w.cycle) (put_left (y ∷ ys) c a b n)

module _ (all : List Letter) (e : ℕ) where
  abbrev at : ℕ → Letter
  at i = slice_index_or all i []

  -- the cycle from a place on, which is not empty
  cycle_from : (m : ℕ) → m + 1 + suc e ≤ length all → take (suc e) (drop (m + 1) all) ≡ take e (drop (m + 1) all) ++ at (m + suc e) ∷ []
  cycle_from m l =
      let one : suc e ≡ e + 1 = omega arith in
      let size = drop_size all (m + 1) (omega (arith, l)) in
      let place : m + 1 + e ≡ m + suc e = omega arith in
      ap (λ k. take k (drop (m + 1) all)) one
      ∙ take_more (drop (m + 1) all) e [] (omega (arith, size, l))
      ∙ ap (λ x. take e (drop (m + 1) all) ++ x ∷ []) (get_or-drop (m + 1) all e [] ∙ ap at place)

  one_back : (m : ℕ) → m + 1 + suc e ≤ length all → at m ≡ at (m + suc e) → put_all (take (m + 1) all) (take (suc e) (drop (m + 1) all)) ≡ put_all (take m all) (take (suc e) (drop m all))
  one_back m l same =
      ap₂ put_all (take_more all m [] (omega (arith, l))) (cycle_from m l)
      ∙ put_turned (take m all) (take e (drop (m + 1) all)) (at m) (at (m + suc e)) same
      ∙ ap (λ xs. put_all (take m all) (take (suc e) xs)) (sym (drop_more all m [] (omega (arith, l))))

  all_back : (n keep : ℕ) → keep + n + suc e ≤ length all → ((k : ℕ) → keep ≤ k → k < keep + n → at k ≡ at (k + suc e)) → put_all (take (keep + n) all) (take (suc e) (drop (keep + n) all)) ≡ put_all (take keep all) (take (suc e) (drop keep all))
  all_back zero keep l same = let z : keep + 0 ≡ keep = omega arith in ap (λ k. put_all (take k all) (take (suc e) (drop k all))) z
  all_back (suc n) keep l same =
      let s : keep + suc n ≡ keep + n + 1 = omega arith in
      ap (λ k. put_all (take k all) (take (suc e) (drop k all))) s
      ∙ one_back (keep + n) (omega (arith, l)) (same (keep + n) (omega arith) (omega arith))
      ∙ all_back n keep (omega (arith, l)) (λ k i j. same k i (omega (arith, j)))

  stays : (keep : ℕ) → keep + suc e ≤ length all → (0 < keep → at (keep - 1) ≢ at (keep - 1 + suc e)) → put_all (take keep all) (take (suc e) (drop keep all)) ≡ word_of (take keep all) (take (suc e) (drop keep all))
  stays zero l n = ap (λ xs. put_all xs (take (suc e) (drop 0 all))) (none all) ∙ ap (λ xs. word_of xs (take (suc e) (drop 0 all))) (sym (none all))
    where
      none : (ys : List Letter) → take 0 ys ≡ []
      none [] = refl
      none (y ∷ ys) = refl
  stays (suc m) l n =
      let s : suc m ≡ m + 1 = omega arith in
      let z : suc m - 1 ≡ m = omega arith in
      let first : take (suc m) all ≡ take m all ++ at m ∷ [] = ap (λ k. take k all) s ∙ take_more all m [] (omega (arith, l)) in
      let second : take (suc e) (drop (suc m) all) ≡ take e (drop (m + 1) all) ++ at (m + suc e) ∷ [] = ap (λ k. take (suc e) (drop k all)) s ∙ cycle_from m (omega (arith, l)) in
      ap₂ put_all first second
      ∙ put_left (take m all) (take e (drop (m + 1) all)) (at m) (at (m + suc e)) (subst (λ k. at k ≢ at (k + suc e)) z (n (omega arith)))
      ∙ sym (ap₂ word_of first second)

  kept_is : (stem keep : ℕ) → keep ≤ stem → stem + suc e ≤ length all → ((k : ℕ) → keep ≤ k → k < stem → at k ≡ at (k + suc e)) → (0 < keep → at (keep - 1) ≢ at (keep - 1 + suc e))
      → put_all (take stem all) (take (suc e) (drop stem all)) ≡ word_of (take keep all) (take (suc e) (drop keep all))
  kept_is stem keep l m same n =
      let s : stem ≡ keep + (stem - keep) = omega arith in
      ap (λ k. put_all (take k all) (take (suc e) (drop k all))) s
      ∙ all_back (stem - keep) keep (omega (arith, l, m)) (λ k i j. same k i (omega (arith, j, l)))
      ∙ stays keep (omega (arith, l, m)) n

-- the word

module _ (names : List Name) (rows : List (List ℕ)) (stem : ℕ) (made : IsMade names rows stem) where
  pub is_lasso : IsLasso (lasso_of names rows stem)
  is_lasso = record {
    sets = All-from_has (IsRising name_cmp) _ (λ a h.
        let w = map_cases (letter_of names) rows a (subst (λ ls. Has ls a) (whole_letters names rows stem) h) in
        subst (IsRising name_cmp) (sym w.2)
        (letter_rises names made.sorted w.0 (all_at (IsRising nat_cmp) rows w.0 made.sets w.1) (all_at (AllByRecursion (λ i. i < length names)) rows w.0 made.within w.1)));
    cycles = let e = map_length (letter_of names) (drop stem rows) in let f = drop_size rows stem (let l = made.cycles in omega (arith, l)) in let l = made.cycles in omega (arith, e, f, l);
  }

  -- the first letters make a word too
  first_made : (keep d : ℕ) → 0 < d → keep + d ≤ length rows → IsMade names (take (keep + d) rows) keep
  first_made keep d some l = record {
    sorted = made.sorted;
    few = made.few;
    sets = all_from (IsRising nat_cmp) (take (keep + d) rows) (λ z h. all_at (IsRising nat_cmp) rows z made.sets (take_has (keep + d) rows z h));
    within = all_from (AllByRecursion (λ i. i < length names)) (take (keep + d) rows) (λ z h. all_at (AllByRecursion (λ i. i < length names)) rows z made.within (take_has (keep + d) rows z h));
    propositions = take_all (λ places. list_all is_proposition (letter_of names places)) (keep + d) rows made.propositions;
    cycles = let e = length-take-le (keep + d) rows l in omega (arith, e, some);
  }

  -- and are the least form
  least_fits : (d keep : ℕ) → IsShortest (drop stem rows) d → IsKept rows stem d keep → keep + d ≤ length rows
  least_fits d keep h k = let l = h.most in let m = drop_size rows stem (let b = made.cycles in omega (arith, b)) in let n = k.most in omega (arith, l, m, n)

  least_word : (d keep : ℕ) → IsShortest (drop stem rows) d → IsKept rows stem d keep → IsLeastForm (lasso_of names rows stem) (lasso_of names (take (keep + d) rows) keep)
  least_word zero keep h k = let l = h.some in absurd (omega arith)
  least_word (suc e) keep h k =
      subst (IsLeastForm (lasso_of names rows stem)) (form ∙ sym view) (least_form_is (lasso_of names rows stem) is_lasso)
    where
      all : List Letter
      all = map (letter_of names) rows

      size : length all ≡ length rows
      size = map_length (letter_of names) rows

      below : stem + suc e ≤ length rows
      below = let l = h.most in let m = drop_size rows stem (let l = made.cycles in omega (arith, l)) in omega (arith, l, m)

      fits : keep + suc e ≤ length rows
      fits = let l = below in let m = k.most in omega (arith, l, m)

      drop_within : AllByRecursion (AllByRecursion (λ i. i < length names)) (drop stem rows)
      drop_within = all_from (AllByRecursion (λ i. i < length names)) (drop stem rows) (λ z m. all_at (AllByRecursion (λ i. i < length names)) rows z made.within (drop_has stem rows z m))
        where
          drop_has : (n : ℕ) (xs : List (List ℕ)) (b : List ℕ) → Has (drop n xs) b → Has xs b
          drop_has zero [] b m = m
          drop_has zero (x ∷ xs) b m = m
          drop_has (suc n) [] b m = m
          drop_has (suc n) (x ∷ xs) b m = inr (drop_has n xs b m)

      cycle : shortest_cycle (map (letter_of names) (drop stem rows)) ≡ take (suc e) (drop stem all)
      cycle =
          shortest_is names made.sorted (drop stem rows) drop_within (suc e) (let l = h.some in let m = h.most in omega (arith, l, m)) h
          ∙ ap (take (suc e)) (sym (drop-map (letter_of names) stem rows))

      form : least_form (lasso_of names rows stem) ≡ word_of (take keep all) (take (suc e) (drop keep all))
      form =
          ap₂ put_all (sym (take-map (letter_of names) stem rows)) cycle
          ∙ kept_is all e stem keep k.most (let l = below in omega (arith, l, size))
          (λ j l m. rows_to_letters names made.sorted rows made.within j (j + suc e) (let b = below in omega (arith, b, m)) (let b = below in omega (arith, b, m)) (k.again j l m))
          (λ l q. let b = fits in k.differs l (letters_to_rows names made.sorted rows made.within (keep - 1) (keep - 1 + suc e) (omega (arith, b, l)) (omega (arith, b, l)) q))

      view : lasso_of names (take (keep + suc e) rows) keep ≡ word_of (take keep all) (take (suc e) (drop keep all))
      view =
          ap₂ word_of
          (ap (map (letter_of names)) (take-take keep (keep + suc e) rows (omega arith)) ∙ sym (take-map (letter_of names) keep rows))
          (ap (map (letter_of names)) (drop-take keep (suc e) rows) ∙ sym (take-map (letter_of names) (suc e) (drop keep rows)) ∙ ap (take (suc e)) (sym (drop-map (letter_of names) keep rows)))

  pub least_made : (d keep : ℕ) → IsShortest (drop stem rows) d → IsKept rows stem d keep → (ns : List Name) → ns ≡ names → (ls : List (List ℕ)) → ls ≡ take (keep + d) rows → IsMade ns ls keep
  least_made d keep h k ns e ls f = subst (λ ms. IsMade ms ls keep) (sym e) (subst (λ ms. IsMade names ms keep) (sym f) (first_made keep d h.some (least_fits d keep h k)))

  pub least_view : (w : Lasso) → lasso_of names rows stem ≡ w → (d keep : ℕ) → IsShortest (drop stem rows) d → IsKept rows stem d keep → (ns : List Name) → ns ≡ names → (ls : List (List ℕ)) → ls ≡ take (keep + d) rows
      → IsLeastForm w (lasso_of ns ls keep)
  least_view w v d keep h k ns e ls f =
      subst (λ u. IsLeastForm u (lasso_of ns ls keep)) v (subst (IsLeastForm (lasso_of names rows stem)) (ap₂ (λ ms rs. lasso_of ms rs keep) (sym e) (sym f)) (least_word d keep h k))

-- the letters from the stem's end on
pub cycle_rows : (rows : List (List ℕ)) (stem : ℕ) → stem < length rows → take (length rows - stem) (drop stem rows) ≡ drop stem rows
cycle_rows rows stem l = let m = drop_size rows stem (omega (arith, l)) in taken_whole (length rows - stem) (drop stem rows) (omega (arith, m))
