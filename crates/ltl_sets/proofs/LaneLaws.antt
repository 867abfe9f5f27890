-- What the looks at four words find.
use Rattle.std.proofs.Common.{◌≡◌, ◌≢◌, ◌∙◌, min, ap, sym, refl, subst, ℕ, zero, suc, ◌+◌, ◌-◌, ◌*◌, ◌/◌, ◌%◌, ◌^◌, ◌<◌, ◌≤◌, w64, bit_and, bit_or, arith, Bool, true, false, cond, not, ◌||◌, ◌&&◌, ◌⊎◌, inl, inr, nat_eq, ap₂, List, [], ◌∷◌, length, get_or, map}
use Rattle.std.specs.Prelude.{Option, Some, None}
use Rattle.std.specs.Int.{bit_at, bit_not, trailing_zeros}
use Rattle.std.specs.Bool.{Decides}
use Rattle.std.specs.List.{range_with_len}
use Rattle.std.specs.Simd.Lanes.{fold_l}
use Rattle.std.proofs.Math.ListN.{set}
use Rattle.std.proofs.lemmas.Bool.Decides.{nat_tests, Decides-eqb, Decides-like, Decides-or}
use Rattle.std.proofs.lemmas.Nat.{le_or_l, le_or_r, shr-shr, shr_le}
use Rattle.std.proofs.lemmas.Nat.Bits.{bit_at-lt, bit_at-zero, bit_at_and, bit_at_ones, bit_at-pow_same, bit_at-pow_other, bit_at-trailing_zeros, bit_at_clear_same, bit_at_clear_other, bit_at_above, same_from_bits_below}
use Rattle.std.proofs.lemmas.List.{get_or_past, get_or-set_same, get_or-set_other}
use Rattle.std.proofs.lemmas.List.FromFn.{get_or-map-range_with_len}
use Rattle.ltl_sets.specs.Words.{IsWords, bit_in, HasNone, Reaches, HasLater, FindsLowest, word_alone, IsLowest, LosesBit}
use Rattle.ltl_sets.specs.WordLaws.{word_below, place_below, bit_in-place}
use Rattle.ltl_sets.specs.declared.row_set.TheConstants.RowSet.{LIMIT, WORDS}

-- ---- one bit alone

pow_bit : (m n : ℕ) → nat_eq (bit_at (2 ^ m) n) 1 ≡ nat_eq n m
pow_bit m n = elim (same_or_not n m) [ inl e ↦ equal e | inr e ↦ other e ]
  where
    same_or_not : (a b : ℕ) → (a ≡ b) ⊎ (a ≢ b)
    same_or_not a b = grind arith

    test_same : (a b x : ℕ) → a ≡ b → x ≡ 1 → nat_eq x 1 ≡ nat_eq a b
    test_same a b x e f = grind (arith, nat_tests)

    test_other : (a b x : ℕ) → a ≢ b → x ≡ 0 → nat_eq x 1 ≡ nat_eq a b
    test_other a b x e f = grind (arith, nat_tests)

    equal : n ≡ m → nat_eq (bit_at (2 ^ m) n) 1 ≡ nat_eq n m
    equal e = test_same n m (bit_at (2 ^ m) n) e (ap (bit_at (2 ^ m)) e ∙ bit_at-pow_same m)

    other : n ≢ m → nat_eq (bit_at (2 ^ m) n) 1 ≡ nat_eq n m
    other e = test_other n m (bit_at (2 ^ m) n) e (bit_at-pow_other m n e)

in_word : (i j : ℕ) (b : Bool) → nat_eq (i / 64) (j / 64) ≡ b → nat_eq (bit_at (cond b (2 ^ (i % 64)) 0) (j % 64)) 1 ≡ nat_eq j i
in_word i j true e = pow_bit (i % 64) (j % 64) ∙ same_place i j e
  where
    same_place : (i j : ℕ) → nat_eq (i / 64) (j / 64) ≡ true → nat_eq (j % 64) (i % 64) ≡ nat_eq j i
    same_place i j e = grind (arith, nat_tests)
in_word i j false e = ap (λ n. nat_eq n 1) (bit_at-zero (j % 64)) ∙ other_place i j e
  where
    other_place : (i j : ℕ) → nat_eq (i / 64) (j / 64) ≡ false → false ≡ nat_eq j i
    other_place i j e = grind (arith, nat_tests)

pub bit_in-alone : (i : ℕ) (ws : List ℕ) → ws ≡ map (word_alone i) (range_with_len 0 WORDS) → (j : ℕ) → j < LIMIT → bit_in ws j ≡ nat_eq j i
bit_in-alone i ws e j h =
    ap (λ us. bit_in us j) e
    ∙ ap (λ n. nat_eq (bit_at n (j % 64)) 1) (get_or-map-range_with_len (word_alone i) 0 WORDS (j / 64) (j / 64) 0 (word_below j h) (omega arith))
    ∙ in_word i j (nat_eq (i / 64) (j / 64)) refl

-- ---- no bit at all

or_zero : (a b : ℕ) → bit_or a b ≡ 0 → (a ≡ 0) × (b ≡ 0)
or_zero a b e = (omega (arith, le_or_l a b), omega (arith, le_or_r a b))

fold_none : (a : ℕ) (xs : List ℕ) → fold_l bit_or a xs ≡ 0 → (a ≡ 0) × ((k : ℕ) → get_or xs k 0 ≡ 0)
fold_none a [] e = (e, λ k. refl)
fold_none a (x ∷ xs) e =
    let (b, rest) = fold_none (bit_or a x) xs e in
    let (c, d) = or_zero a x b in
    (c, at d rest)
  where
    at : x ≡ 0 → ((k : ℕ) → get_or xs k 0 ≡ 0) → (k : ℕ) → get_or (x ∷ xs) k 0 ≡ 0
    at d rest zero = d
    at d rest (suc k) = rest k

none_fold : (a : ℕ) (xs : List ℕ) → a ≡ 0 → ((k : ℕ) → get_or xs k 0 ≡ 0) → fold_l bit_or a xs ≡ 0
none_fold a [] e f = e
none_fold a (x ∷ xs) e f = none_fold (bit_or a x) xs (ap₂ bit_or e (f 0)) (λ k. f (suc k))

-- words without ones are zeros
zero_bit : (n j : ℕ) → n ≡ 0 → nat_eq (bit_at n j) 1 ≡ false
zero_bit n j e = ap (λ m. nat_eq (bit_at m j) 1) e ∙ ap (λ m. nat_eq m 1) (bit_at-zero j)

zero_word : (n : ℕ) → n < 2 ^ 64 → ((j : ℕ) → j < 64 → nat_eq (bit_at n j) 1 ≡ false) → n ≡ 0
zero_word n h f = same_from_bits_below 64 n 0 h (omega arith) (λ j g. none (bit_at n j) (bit_at-lt n j) (f j g) ∙ sym (bit_at-zero j))
  where
    none : (x : ℕ) → x < 2 → nat_eq x 1 ≡ false → x ≡ 0
    none x h e = grind (arith, nat_tests)

pub HasNone-words : (ws : List ℕ) → ((k : ℕ) → k < WORDS → get_or ws k 0 ≡ 0) → HasNone ws
HasNone-words ws f i h = zero_bit (get_or ws (i / 64) 0) (i % 64) (f (i / 64) (word_below i h))

words-HasNone : (ws : List ℕ) → IsWords ws → HasNone ws → (k : ℕ) → get_or ws k 0 ≡ 0
words-HasNone ws one f k =
    elim (split_four k) [
      | inl h ↦ zero_word (get_or ws k 0) (one.fit k) (λ j g. sym (bit_in-place ws k j g) ∙ f (64 * k + j) (omega arith))
      | inr h ↦ get_or_past ws k 0 (omega (arith, one.long))
    ]
  where
    split_four : (k : ℕ) → (k < WORDS) ⊎ (WORDS ≤ k)
    split_four k = grind arith

test_zero : (n : ℕ) → Decides (nat_eq n 0) (n ≡ 0)
test_zero n = Decides-eqb n 0

pub fold_Decides : (ws : List ℕ) → IsWords ws → Decides (nat_eq (fold_l bit_or 0 ws) 0) (HasNone ws)
fold_Decides ws one =
    Decides-like (nat_eq (fold_l bit_or 0 ws) 0)
    (λ e. HasNone-words ws (λ k h. (fold_none 0 ws e).1 k))
    (λ f. none_fold 0 ws refl (words-HasNone ws one f))
    (test_zero (fold_l bit_or 0 ws))

-- ---- the lowest one

module _ (ws : List ℕ) (at : ℕ) (inside : at < WORDS) (fit : get_or ws at 0 < 2 ^ 64) (some : 0 < get_or ws at 0) where
  pub IsLowest-words : ((k : ℕ) → k < at → get_or ws k 0 ≡ 0) → IsLowest ws (64 * at + trailing_zeros w64 (get_or ws at 0))
  IsLowest-words zeros =
      let low = bit_at-trailing_zeros w64 (get_or ws at 0) some fit in
      let place : trailing_zeros w64 (get_or ws at 0) < 64 = low.0 in
      record {
        below = omega arith;
        one = bit_in-place ws at (trailing_zeros w64 (get_or ws at 0)) place ∙ ap (λ n. nat_eq n 1) low.1;
        zeros = λ j h. elim (earlier at (trailing_zeros w64 (get_or ws at 0)) j place h) [
          | inl k ↦ zero_bit (get_or ws (j / 64) 0) (j % 64) (zeros (j / 64) k)
          | inr (e, l) ↦ ap (λ m. nat_eq (bit_at (get_or ws m 0) (j % 64)) 1) e ∙ ap (λ n. nat_eq n 1) (low.2 (j % 64) l)
        ];
      }
    where
      earlier : (at t j : ℕ) → t < 64 → j < 64 * at + t → (j / 64 < at) ⊎ ((j / 64 ≡ at) × (j % 64 < t))
      earlier at t j h g = elim (split (j / 64) at) [ inl k ↦ inl k | inr k ↦ inr (omega arith, omega arith) ]
        where
          split : (a b : ℕ) → (a < b) ⊎ (b ≤ a)
          split a b = grind arith

  pub LosesBit-words : length ws ≡ WORDS → (n : ℕ) → n ≡ bit_and (get_or ws at 0) (bit_not w64 (1 * 2 ^ trailing_zeros w64 (get_or ws at 0) % 2 ^ 64))
      → LosesBit ws (64 * at + trailing_zeros w64 (get_or ws at 0)) (set ws at n)
  LosesBit-words long n is j h =
      let low = bit_at-trailing_zeros w64 (get_or ws at 0) some fit in
      let t = trailing_zeros w64 (get_or ws at 0) in
      elim (where_is at t j) [
        | inl d ↦
            ap (λ m. nat_eq (bit_at m (j % 64)) 1) (get_or-set_other ws at (j / 64) n 0 d)
            ∙ kept _ (nat_eq j (64 * at + t)) (other_lane at t j low.0 d)
        | inr (inl (e, d)) ↦
            ap (λ m. nat_eq (bit_at m (j % 64)) 1) (new e)
            ∙ ap (λ m. nat_eq m 1) (ap₂ bit_at is d ∙ bit_at_clear_same w64 (get_or ws at 0) t low.0)
            ∙ gone _ (nat_eq j (64 * at + t)) (same_place at t j e d)
        | inr (inr (e, d)) ↦
            ap (λ m. nat_eq (bit_at m (j % 64)) 1) (new e ∙ is)
            ∙ ap (λ m. nat_eq m 1) (bit_at_clear_other w64 (get_or ws at 0) t low.0 (j % 64) (place_below j) d)
            ∙ ap (λ m. nat_eq (bit_at (get_or ws m 0) (j % 64)) 1) (sym e)
            ∙ kept _ (nat_eq j (64 * at + t)) (other_place at t j e d)
      ]
    where
      where_is : (a t j : ℕ) → (j / 64 ≢ a) ⊎ (((j / 64 ≡ a) × (j % 64 ≡ t)) ⊎ ((j / 64 ≡ a) × (j % 64 ≢ t)))
      where_is a t j = elim (same_or_not (j / 64) a) [ inr d ↦ inl d | inl e ↦ elim (same_or_not (j % 64) t) [ inl d ↦ inr (inl (e, d)) | inr d ↦ inr (inr (e, d)) ] ]
        where
          same_or_not : (a b : ℕ) → (a ≡ b) ⊎ (a ≢ b)
          same_or_not a b = grind arith

      kept : (x b : Bool) → b ≡ false → x ≡ (x && not b)
      kept true b e = ap not (sym e)
      kept false b e = refl

      gone : (x b : Bool) → b ≡ true → false ≡ (x && not b)
      gone true b e = ap not (sym e)
      gone false b e = refl

      other_lane : (a t j : ℕ) → t < 64 → j / 64 ≢ a → nat_eq j (64 * a + t) ≡ false
      other_lane a t j l d = grind (arith, nat_tests)

      same_place : (a t j : ℕ) → j / 64 ≡ a → j % 64 ≡ t → nat_eq j (64 * a + t) ≡ true
      same_place a t j e d = grind (arith, nat_tests)

      other_place : (a t j : ℕ) → j / 64 ≡ a → j % 64 ≢ t → nat_eq j (64 * a + t) ≡ false
      other_place a t j e d = grind (arith, nat_tests)

      new : j / 64 ≡ at → get_or (set ws at n) (j / 64) 0 ≡ n
      new e = ap (λ k. get_or (set ws at n) k 0) e ∙ get_or-set_same ws at n 0 (omega arith)

-- ---- a one at a place or above it

some_bit : (n : ℕ) → n < 2 ^ 64 → n ≢ 0 → (j : ℕ) × (j < 64) × (bit_at n j ≡ 1)
some_bit n h d = let low = bit_at-trailing_zeros w64 n (omega arith) h in (trailing_zeros w64 n, low.0, low.1)

shifted_bit : (n s j : ℕ) → bit_at (n / 2 ^ s) j ≡ bit_at n (s + j)
shifted_bit n s j = ap (λ m. m % 2) (shr-shr n s j)

module _ (ws : List ℕ) (one : IsWords ws) (i : ℕ) (h : i < LIMIT) where
  from_word : get_or ws (i / 64) 0 / 2 ^ (i % 64) ≢ 0 → Reaches ws i
  from_word d =
      let n = get_or ws (i / 64) 0 in
      let (j, l, e) = some_bit (n / 2 ^ (i % 64)) (lower _ _ (shr_le n (i % 64)) (one.fit (i / 64))) d in
      let bit : bit_at n (i % 64 + j) ≡ 1 = sym (shifted_bit n (i % 64) j) ∙ e in
      let inside : i % 64 + j < 64 = below_word n (i % 64 + j) (one.fit (i / 64)) bit in
      (64 * (i / 64) + (i % 64 + j), omega arith, omega arith, bit_in-place ws (i / 64) (i % 64 + j) inside ∙ ap (λ m. nat_eq m 1) bit)
    where
      lower : (a b : ℕ) → a ≤ b → b < 2 ^ 64 → a < 2 ^ 64
      lower a b l g = omega arith

      below_word : (n k : ℕ) → n < 2 ^ 64 → bit_at n k ≡ 1 → k < 64
      below_word n k f e = elim (split k) [ inl l ↦ l | inr l ↦ absurd (zero_one (bit_at n k) (bit_at_above n 64 k f l) e) ]
        where
          split : (k : ℕ) → (k < 64) ⊎ (64 ≤ k)
          split k = grind arith

          zero_one : (x : ℕ) → x ≡ 0 → x ≡ 1 → ⊥
          zero_one x e f = omega arith

  from_later : HasLater ws (i / 64) → Reaches ws i
  from_later (k, a, b, d) =
      let (j, l, e) = some_bit (get_or ws k 0) (one.fit k) d in
      (64 * k + j, omega arith, omega arith, bit_in-place ws k j l ∙ ap (λ m. nat_eq m 1) e)

  reaches_cases : Reaches ws i → (get_or ws (i / 64) 0 / 2 ^ (i % 64) ≢ 0) ⊎ HasLater ws (i / 64)
  reaches_cases (j, l, g, e) =
      let bit : bit_at (get_or ws (j / 64) 0) (j % 64) ≡ 1 = one_told _ e in
      elim (split (i / 64) (j / 64)) [
        | inl a ↦ inr (j / 64, a, word_below j g, λ z. zero_one _ (ap (λ m. bit_at m (j % 64)) z ∙ bit_at-zero (j % 64)) bit)
        | inr a ↦ inl (λ z. zero_one _
            (ap (bit_at (get_or ws (j / 64) 0)) (omega arith) ∙ ap (λ m. bit_at (get_or ws m 0) (i % 64 + (j % 64 - i % 64))) (omega arith)
            ∙ sym (shifted_bit (get_or ws (i / 64) 0) (i % 64) (j % 64 - i % 64)) ∙ ap (λ m. bit_at m (j % 64 - i % 64)) z ∙ bit_at-zero (j % 64 - i % 64)) bit)
      ]
    where
      one_told : (x : ℕ) → nat_eq x 1 ≡ true → x ≡ 1
      one_told x e = grind (arith, nat_tests)

      zero_one : (x : ℕ) → x ≡ 0 → x ≡ 1 → ⊥
      zero_one x e f = omega arith

      split : (a b : ℕ) → (a < b) ⊎ (b ≤ a)
      split a b = grind arith

  pub reaches_Decides : (s t : Bool) → Decides s (get_or ws (i / 64) 0 / 2 ^ (i % 64) ≢ 0) → Decides t (HasLater ws (i / 64)) → Decides (s || t) (Reaches ws i)
  reaches_Decides s t d e =
      Decides-like (s || t) (elim [ inl a ↦ from_word a | inr a ↦ from_later a ]) reaches_cases (Decides-or s t d e)

-- ---- the answers of a choice

pub found_none : (ws : List ℕ) (r : Option ℕ) → FindsLowest ws r → r ≡ None → HasNone ws
found_none ws r f e = subst (FindsLowest ws) e f

pub found_some : (ws : List ℕ) (r : Option ℕ) (i : ℕ) → FindsLowest ws r → r ≡ Some i → IsLowest ws i
found_some ws r i f e = subst (FindsLowest ws) e f

pub chosen_first : {A : Type 0} (b : Bool) (x y z : A) → b ≡ true → z ≡ x → z ≡ cond b x y
chosen_first true x y z e f = f
chosen_first false x y z e f = cc

pub chosen_second : {A : Type 0} (b : Bool) (x y z : A) → b ≡ false → z ≡ y → z ≡ cond b x y
chosen_second true x y z e f = cc
chosen_second false x y z e f = f

-- ---- bytes

-- bit i of byte k
pub byte_bit : (ws : List ℕ) (k i : ℕ) → i < 8 → nat_eq (bit_at (bit_and (get_or ws (k / 8) 0 / 2 ^ (8 * (k % 8))) 255) i) 1 ≡ bit_in ws (8 * k + i)
byte_bit ws k i h =
    let n = get_or ws (k / 8) 0 in
    ap (λ m. nat_eq m 1) (
    bit_at_and (n / 2 ^ (8 * (k % 8))) 255 i
    ∙ ap (min (bit_at (n / 2 ^ (8 * (k % 8))) i)) (bit_at_ones 8 i h)
    ∙ least_one (bit_at (n / 2 ^ (8 * (k % 8))) i) (bit_at-lt (n / 2 ^ (8 * (k % 8))) i)
    ∙ shifted_bit n (8 * (k % 8)) i
    ∙ ap₂ (λ a b. bit_at (get_or ws a 0) b) (omega (arith, h)) (omega (arith, h)))
  where
    least_one : (x : ℕ) → x < 2 → min x 1 ≡ x
    least_one x h = omega arith
