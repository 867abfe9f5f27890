-- The least form is the same word, and it is least.
use lib.Pointwise.{pointwise_decides}
use Rattle.std.proofs.Common.{◌≡◌, ℕ, zero, suc, ◌+◌, ◌-◌, ◌*◌, ◌/◌, ◌<◌, ◌≤◌, Bool, true, false, cond, inl, inr, List, [], ◌∷◌, ◌++◌, length, take, refl, sym, ◌∙◌, ap, subst, arith, append_assoc, length-append, suc-mul}
use Rattle.std.specs.Prelude.{◌≢◌, slice_index_or}
use Rattle.std.specs.Bool.{Decides}
use Rattle.std.proofs.lemmas.List.{append-nil}
use Rattle.std.proofs.lemmas.Nat.{div-mul-add}
use Rattle.ltl_spec.specs.Collections.Sets.{Has, IsRising}
use Rattle.ltl_spec.specs.Semantics.Word.{Name, name_cmp, Letter, Lasso, IsLasso, IsSameWord}
use Rattle.ltl_spec.specs.Words.LassoText.{repeated, EndsWith, IsLeast, IsLeastForm, names_in}
use Rattle.ltl_spec.specs.Words.LeastForm.{same_letter, same_letters, first_from, repeats, shortest_cycle, last_is, without_last, put_first, put_all, least_form}
use Rattle.ltl_spec.proofs.Collections.SetLaws.{append_cases, append_left, append_right}
use Rattle.ltl_spec.proofs.Collections.ListLaws.{Has-at, All-at_has}
use Rattle.ltl_spec.proofs.Collections.MemberLaws.{Has-flat_map, flat_map_cases}
use Rattle.ltl_spec.proofs.Checking.StreamLaws.{stream, letter_stream, stream_turned, stream_repeated}
use Rattle.ltl_spec.proofs.Collections.CaseLaws.{false_is_true, here_or_above}
use Rattle.ltl_spec.proofs.Formulas.NameLaws.{same_name_Decides}

pub same_letter_Decides : (a b : Letter) → Decides (same_letter a b) (a ≡ b)
same_letter_Decides = pointwise_decides same_name_Decides

pub same_letters_Decides : (xs ys : List Letter) → Decides (same_letters xs ys) (xs ≡ ys)
same_letters_Decides = pointwise_decides same_letter_Decides

-- the first number that passes

module _ (p : ℕ → Bool) where
  -- it is not too far, and no earlier one passes
  pub first_least : (n d : ℕ) → d ≤ first_from p n d
  first_least zero d = omega arith
  first_least (suc n) d = elim (p d) as (λ b. d ≤ cond b d (first_from p n (d + 1))) [ true ↦ omega arith | false ↦ let l = first_least n (d + 1) in omega arith ]

  first_most : (n d : ℕ) → first_from p n d ≤ d + n
  first_most zero d = omega arith
  first_most (suc n) d = elim (p d) as (λ b. cond b d (first_from p n (d + 1)) ≤ d + suc n) [ true ↦ omega arith | false ↦ let l = first_most n (d + 1) in omega arith ]

  first_before : (n d e : ℕ) → d ≤ e → e < first_from p n d → p e ≡ false
  first_before zero d e l m = absurd (omega arith)
  first_before (suc n) d e l m =
      elim (p d) as (λ b. p d ≡ b → e < cond b d (first_from p n (d + 1)) → p e ≡ false) [
        | true ↦ λ t k. absurd (omega arith)
        | false ↦ λ t k. elim (here_or_above d e l) [ inl q ↦ ap p (sym q) ∙ t | inr later ↦ first_before n (d + 1) e later k ]
      ] refl m

  -- where the one behind all passes, it passes
  first_passes : (n d : ℕ) → p (d + n) ≡ true → p (first_from p n d) ≡ true
  first_passes zero d t = let e : d + 0 ≡ d = omega arith in ap p (sym e) ∙ t
  first_passes (suc n) d t =
      let e : d + suc n ≡ d + 1 + n = omega arith in
      let rest = first_passes n (d + 1) (ap p (sym e) ∙ t) in
      elim (p d) as (λ b. p d ≡ b → p (cond b d (first_from p n (d + 1))) ≡ true) [ true ↦ λ q. q | false ↦ λ q. rest ] refl

-- repetitions

pub repeated_length : (n : ℕ) (xs : List Letter) → length (repeated n xs) ≡ n * length xs
repeated_length zero xs = let e : 0 * length xs ≡ 0 = omega arith in sym e
repeated_length (suc n) xs = length-append xs (repeated n xs) ∙ ap (λ m. length xs + m) (repeated_length n xs) ∙ turn (length xs) (n * length xs) ∙ sym (suc-mul n (length xs))
  where
    turn : (a b : ℕ) → a + b ≡ b + a
    turn a b = omega arith

repeated_add : (m n : ℕ) (xs : List Letter) → repeated (m + n) xs ≡ repeated m xs ++ repeated n xs
repeated_add zero n xs = let e : 0 + n ≡ n = omega arith in ap (λ k. repeated k xs) e
repeated_add (suc m) n xs = let e : suc m + n ≡ suc (m + n) = omega arith in ap (λ k. repeated k xs) e ∙ ap (λ l. xs ++ l) (repeated_add m n xs) ∙ sym (append_assoc xs (repeated m xs) (repeated n xs))

repeated_times : (n m : ℕ) (xs : List Letter) → repeated n (repeated m xs) ≡ repeated (n * m) xs
repeated_times zero m xs = let e : 0 ≡ 0 * m = omega arith in ap (λ k. repeated k xs) e
repeated_times (suc n) m xs =
    let e : m + n * m ≡ n * m + m = omega arith in
    ap (λ l. repeated m xs ++ l) (repeated_times n m xs) ∙ sym (repeated_add m (n * m) xs) ∙ ap (λ k. repeated k xs) (e ∙ sym (suc-mul n m))

abbrev no_letters : List Letter
no_letters = []

repeated_nothing : (n : ℕ) → repeated n (no_letters) ≡ no_letters
repeated_nothing zero = refl
repeated_nothing (suc n) = repeated_nothing n

take_first : (xs ys : List Letter) → take (length xs) (xs ++ ys) ≡ xs
take_first [] ys = take_none ys
  where
    take_none : (zs : List Letter) → take 0 zs ≡ []
    take_none [] = refl
    take_none (z ∷ zs) = refl
take_first (x ∷ xs) ys = ap (λ l. x ∷ l) (take_first xs ys)

take_length : (xs : List Letter) (n : ℕ) → n ≤ length xs → length (take n xs) ≡ n
take_length xs zero l = none xs
  where
    none : (zs : List Letter) → length (take 0 zs) ≡ 0
    none [] = refl
    none (z ∷ zs) = refl
take_length [] (suc n) l = absurd (omega arith)
take_length (x ∷ xs) (suc n) l = ap suc (take_length xs n (omega arith))

-- a repetition passes the test
repeats_true : (n : ℕ) (ys xs : List Letter) → xs ≡ repeated (suc n) ys → 0 < length ys → repeats xs (length ys) ≡ true
repeats_true n ys xs e l =
    let times : length xs ≡ suc n * length ys + 0 = ap length e ∙ repeated_length (suc n) ys ∙ plain (suc n * length ys) in
    let count : length xs / length ys ≡ suc n = ap (λ k. k / length ys) times ∙ div-mul-add (suc n) (length ys) 0 l in
    let first : take (length ys) xs ≡ ys = ap (take (length ys)) e ∙ take_first ys (repeated n ys) in
    (same_letters_Decides xs (repeated (length xs / length ys) (take (length ys) xs))).1
    (e ∙ ap (λ k. repeated k ys) (sym count) ∙ ap (repeated (length xs / length ys)) (sym first))
  where
    plain : (k : ℕ) → k ≡ k + 0
    plain k = omega arith

-- the shortest cycle

module _ (xs : List Letter) (some : 0 < length xs) where
  abbrev place : ℕ
  place = first_from (repeats xs) (length xs - 1) 1

  last_repeats : repeats xs (1 + (length xs - 1)) ≡ true
  last_repeats =
      let e : length xs ≡ 1 + (length xs - 1) = omega arith in
      ap (repeats xs) (sym e) ∙ repeats_true 0 xs xs (sym (append-nil xs)) some

  place_within : place ≤ length xs
  place_within = let l = first_most (repeats xs) (length xs - 1) 1 in omega arith

  shortest_length : length (shortest_cycle xs) ≡ place
  shortest_length = take_length xs place place_within

  -- the list repeats it
  pub shortest_repeats : xs ≡ repeated (length xs / place) (shortest_cycle xs)
  shortest_repeats = (same_letters_Decides xs (repeated (length xs / place) (shortest_cycle xs))).0 (first_passes (repeats xs) (length xs - 1) 1 last_repeats)

  pub shortest_some : 0 < length (shortest_cycle xs)
  shortest_some = let l = first_least (repeats xs) (length xs - 1) 1 in let e = shortest_length in omega (arith, l, e)

  -- and it repeats no shorter one
  pub shortest_least : (n : ℕ) (ys : List Letter) → length ys < length (shortest_cycle xs) → shortest_cycle xs ≢ repeated n ys
  shortest_least n ys l e = at (length xs / place * n) refl
    where
      whole : xs ≡ repeated (length xs / place * n) ys
      whole = shortest_repeats ∙ ap (repeated (length xs / place)) e ∙ repeated_times (length xs / place) n ys

      some_letters : (zs : List Letter) → ys ≡ zs → 0 < length ys
      some_letters [] q =
          let none : length (shortest_cycle xs) ≡ 0 = ap length (e ∙ ap (repeated n) q ∙ repeated_nothing n) in
          let k = shortest_some in absurd (omega (arith, none, k))
      some_letters (z ∷ zs) q = let k = ap length q in omega (arith, k)

      at : (k : ℕ) → length xs / place * n ≡ k → ⊥
      at zero q = let none : length xs ≡ 0 = ap length (whole ∙ ap (λ m. repeated m ys) q) in omega (arith, none, some)
      at (suc k) q =
          let yes = repeats_true k ys xs (whole ∙ ap (λ m. repeated m ys) q) (some_letters ys refl) in
          let m = some_letters ys refl in
          let s = shortest_length in
          false_is_true (sym (first_before (repeats xs) (length xs - 1) 1 (length ys) (omega arith) (omega (arith, l, s))) ∙ yes)

-- the last letter

last_true : (a : Letter) (xs : List Letter) → last_is a xs ≡ true → xs ≡ without_last xs ++ a ∷ []
last_true a [] e = false_is_true e
last_true a (x ∷ []) e = ap (λ b. b ∷ []) (sym ((same_letter_Decides a x).0 e))
last_true a (x ∷ y ∷ ys) e = ap (λ l. x ∷ l) (last_true a (y ∷ ys) e)

last_of_end : (a : Letter) (before : List Letter) → last_is a (before ++ a ∷ []) ≡ true
last_of_end a [] = (same_letter_Decides a a).1 refl
last_of_end a (x ∷ []) = (same_letter_Decides a a).1 refl
last_of_end a (x ∷ y ∷ ys) = last_of_end a (y ∷ ys)

ends_last : (a : Letter) (xs : List Letter) → EndsWith xs a → last_is a xs ≡ true
ends_last a xs (before, e) = ap (last_is a) e ∙ last_of_end a before

-- nothing ends an empty list, and one letter ends itself alone
nothing_ends : (a : Letter) → EndsWith no_letters a → ⊥
nothing_ends a (before, e) = at before e
  where
    at : (xs : List Letter) → no_letters ≡ xs ++ a ∷ [] → ⊥
    at [] q = cc
    at (x ∷ xs) q = cc

one_ends : (a b : Letter) → EndsWith (a ∷ []) b → b ≡ a
one_ends a b h = (same_letter_Decides b a).0 (ends_last b (a ∷ []) h)

-- what ends a longer list ends the rest
rest_ends : (x y : Letter) (ys : List Letter) (a : Letter) → EndsWith (x ∷ y ∷ ys) a → EndsWith (y ∷ ys) a
rest_ends x y ys a h = (without_last (y ∷ ys), last_true a (y ∷ ys) (ends_last a (x ∷ y ∷ ys) h))

-- a letter in front

-- the list repeats no shorter one
abbrev IsShortest : List Letter → Type 0
IsShortest xs = (n : ℕ) (ys : List Letter) → length ys < length xs → xs ≢ repeated n ys

-- a repetition turned by a letter is one of the turned list
repeated_turned : (n : ℕ) (a : Letter) (zs : List Letter) → repeated n (a ∷ zs) ++ a ∷ [] ≡ a ∷ repeated n (zs ++ a ∷ [])
repeated_turned zero a zs = refl
repeated_turned (suc n) a zs =
    append_assoc (a ∷ zs) (repeated n (a ∷ zs)) (a ∷ [])
    ∙ ap (λ l. a ∷ (zs ++ l)) (repeated_turned n a zs)
    ∙ ap (λ l. a ∷ l) (sym (append_assoc zs (a ∷ []) (repeated n (zs ++ a ∷ []))))

turned_shortest : (a : Letter) (c : List Letter) → IsShortest (c ++ a ∷ []) → IsShortest (a ∷ c)
turned_shortest a c h zero ys l e = cc
turned_shortest a c h (suc n) [] l e =
    let none = repeated_nothing n in
    let bad : a ∷ c ≡ no_letters = e ∙ none in
    cc
turned_shortest a c h (suc n) (z ∷ zs) l e =
    let first : a ≡ z = cc in
    let here : a ∷ c ≡ repeated (suc n) (a ∷ zs) = e ∙ ap (λ b. repeated (suc n) (b ∷ zs)) (sym first) in
    let turned : a ∷ (c ++ a ∷ []) ≡ a ∷ repeated (suc n) (zs ++ a ∷ []) = ap (λ m. m ++ a ∷ []) here ∙ repeated_turned (suc n) a zs in
    let long = length-append zs (a ∷ []) in
    let wide = length-append c (a ∷ []) in
    let less : length (zs ++ a ∷ []) < length (c ++ a ∷ []) = omega (arith, l, long, wide) in
    h (suc n) (zs ++ a ∷ []) less (cc)

-- both answers of putting a letter before a word without stem
abbrev taken_over : Letter → List Letter → Lasso
taken_over a cycle = record { stem = []; cycle = a ∷ without_last cycle }

abbrev left_alone : Letter → List Letter → Lasso
left_alone a cycle = record { stem = a ∷ []; cycle = cycle }

-- the word goes on behind the letter
put_first_stream : (a : Letter) (xs cycle : List Letter) (k : ℕ) → stream (put_first a xs cycle).cycle (put_first a xs cycle).stem k ≡ stream cycle (a ∷ xs) k
put_first_stream a [] cycle k =
    elim (last_is a cycle) as (λ b. last_is a cycle ≡ b → stream (cond b (taken_over a cycle) (left_alone a cycle)).cycle (cond b (taken_over a cycle) (left_alone a cycle)).stem k ≡ stream cycle (a ∷ []) k) [
      | true ↦ λ e. sym (stream_turned a (without_last cycle) [] k) ∙ ap (λ c. stream c (a ∷ []) k) (sym (last_true a cycle e))
      | false ↦ λ e. refl
    ] refl
put_first_stream a (x ∷ xs) cycle k = refl

-- the least stays least
put_first_least : (a : Letter) (xs cycle : List Letter) → IsLeast (record { stem = xs; cycle = cycle }) → IsLeast (put_first a xs cycle)
put_first_least a [] cycle h =
    elim (last_is a cycle) as (λ b. last_is a cycle ≡ b → IsLeast (cond b (taken_over a cycle) (left_alone a cycle))) [
      | true ↦ λ e. record {
        shortest = turned_shortest a (without_last cycle) (subst IsShortest (last_true a cycle e) h.shortest);
        differs = λ b k. absurd (nothing_ends b k);
      }
      | false ↦ λ e. record {
        shortest = h.shortest;
        differs = λ b k m. false_is_true (sym e ∙ ends_last a cycle (subst (EndsWith cycle) (one_ends a b k) m));
      }
    ] refl
put_first_least a (x ∷ xs) cycle h = record { shortest = h.shortest; differs = λ b k. h.differs b (rest_ends a x xs b k) }

-- the cycle stays
put_first_cycles : (a : Letter) (xs cycle : List Letter) → 0 < length cycle → 0 < length (put_first a xs cycle).cycle
put_first_cycles a [] cycle l = elim (last_is a cycle) as (λ b. 0 < length (cond b (taken_over a cycle) (left_alone a cycle)).cycle) [ true ↦ omega arith | false ↦ l ]
put_first_cycles a (x ∷ xs) cycle l = l

-- no letter is new
put_first_letters : (a : Letter) (xs cycle : List Letter) (b : Letter) → Has ((put_first a xs cycle).stem ++ (put_first a xs cycle).cycle) b → Has (a ∷ (xs ++ cycle)) b
put_first_letters a [] cycle b h =
    elim (last_is a cycle) as (λ t. last_is a cycle ≡ t → Has ((cond t (taken_over a cycle) (left_alone a cycle)).stem ++ (cond t (taken_over a cycle) (left_alone a cycle)).cycle) b → Has (a ∷ cycle) b) [
      | true ↦ λ e. elim [ inl q ↦ inl q | inr k ↦ inr (subst (λ c. Has c b) (sym (last_true a cycle e)) (append_left (without_last cycle) (a ∷ []) b k)) ]
      | false ↦ λ e k. k
    ] refl h
put_first_letters a (x ∷ xs) cycle b h = h

-- all letters of the stem in front

put_all_stream : (xs cycle : List Letter) (k : ℕ) → stream (put_all xs cycle).cycle (put_all xs cycle).stem k ≡ stream cycle xs k
put_all_stream [] cycle k = refl
put_all_stream (a ∷ xs) cycle zero = put_first_stream a (put_all xs cycle).stem (put_all xs cycle).cycle zero
put_all_stream (a ∷ xs) cycle (suc k) = put_first_stream a (put_all xs cycle).stem (put_all xs cycle).cycle (suc k) ∙ put_all_stream xs cycle k

put_all_least : (xs cycle : List Letter) → IsShortest cycle → IsLeast (put_all xs cycle)
put_all_least [] cycle h = record { shortest = h; differs = λ b k. absurd (nothing_ends b k) }
put_all_least (a ∷ xs) cycle h = put_first_least a (put_all xs cycle).stem (put_all xs cycle).cycle (put_all_least xs cycle h)

put_all_cycles : (xs cycle : List Letter) → 0 < length cycle → 0 < length (put_all xs cycle).cycle
put_all_cycles [] cycle l = l
put_all_cycles (a ∷ xs) cycle l = put_first_cycles a (put_all xs cycle).stem (put_all xs cycle).cycle (put_all_cycles xs cycle l)

put_all_letters : (xs cycle : List Letter) (b : Letter) → Has ((put_all xs cycle).stem ++ (put_all xs cycle).cycle) b → Has (xs ++ cycle) b
put_all_letters [] cycle b h = h
put_all_letters (a ∷ xs) cycle b h = elim (put_first_letters a (put_all xs cycle).stem (put_all xs cycle).cycle b h) [ inl q ↦ inl q | inr k ↦ inr (put_all_letters xs cycle b k) ]

take_letters : (n : ℕ) (xs : List Letter) (b : Letter) → Has (take n xs) b → Has xs b
take_letters zero [] b h = absurd h
take_letters zero (x ∷ xs) b h = absurd h
take_letters (suc n) [] b h = absurd h
take_letters (suc n) (x ∷ xs) b (inl q) = inl q
take_letters (suc n) (x ∷ xs) b (inr h) = inr (take_letters n xs b h)

-- a repetition that isn't empty goes on like its part
stream_of_repeated : (n : ℕ) (cycle xs ys : List Letter) (k : ℕ) → cycle ≡ repeated n ys → 0 < length cycle → stream cycle xs k ≡ stream ys xs k
stream_of_repeated zero cycle xs ys k e l = let none : length cycle ≡ 0 = ap length e in absurd (omega (arith, none, l))
stream_of_repeated (suc n) cycle xs [] k e l = let none : length cycle ≡ 0 = ap length (e ∙ repeated_nothing n) in absurd (omega (arith, none, l))
stream_of_repeated (suc n) cycle xs (y ∷ ys) k e l =
    ap (λ c. stream c xs k) e
    ∙ ap (λ s. stream (repeated (suc n) (y ∷ ys)) s k) (sym (append-nil xs))
    ∙ stream_repeated y ys n 0 xs k

-- the least form

module _ (w : Lasso) (cycles : 0 < length w.cycle) where
  pub least_cycles : 0 < length (least_form w).cycle
  least_cycles = put_all_cycles w.stem (shortest_cycle w.cycle) (shortest_some w.cycle cycles)

  -- it is the same word
  pub least_same : IsSameWord w (least_form w)
  least_same k =
      letter_stream w cycles k
      ∙ stream_of_repeated (length w.cycle / place w.cycle cycles) w.cycle w.stem (shortest_cycle w.cycle) k (shortest_repeats w.cycle cycles) cycles
      ∙ sym (put_all_stream w.stem (shortest_cycle w.cycle) k)
      ∙ sym (letter_stream (least_form w) least_cycles k)

  -- it is least
  pub least_is_least : IsLeast (least_form w)
  least_is_least = put_all_least w.stem (shortest_cycle w.cycle) (shortest_least w.cycle cycles)

  -- and has no new letter
  pub least_letters : (b : Letter) → Has ((least_form w).stem ++ (least_form w).cycle) b → Has (w.stem ++ w.cycle) b
  least_letters b h = elim (append_cases w.stem (shortest_cycle w.cycle) b (put_all_letters w.stem (shortest_cycle w.cycle) b h)) [
    | inl k ↦ append_left w.stem w.cycle b k
    | inr k ↦ append_right w.stem w.cycle b (take_letters (place w.cycle cycles) w.cycle b k)
  ]

  -- nor a new name
  pub least_names : (n : Name) → Has (names_in (least_form w)) n → Has (names_in w) n
  least_names n h =
      let (a, k, m) = flat_map_cases (λ (x : Letter). x) ((least_form w).stem ++ (least_form w).cycle) n h in
      Has-flat_map (λ (x : Letter). x) (w.stem ++ w.cycle) a n (least_letters a k) m

-- each word has a least form
pub least_form_is : (w : Lasso) → IsLasso w → IsLeastForm w (least_form w)
least_form_is w h = record {
  lasso = record {
    sets = λ k d l. All-at_has (IsRising name_cmp) (w.stem ++ w.cycle) h.sets (slice_index_or ((least_form w).stem ++ (least_form w).cycle) k d)
        (least_letters w h.cycles (slice_index_or ((least_form w).stem ++ (least_form w).cycle) k d) (Has-at ((least_form w).stem ++ (least_form w).cycle) k d l));
    cycles = least_cycles w h.cycles;
  };
  same = least_same w h.cycles;
  least = least_is_least w h.cycles;
}
