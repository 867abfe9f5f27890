-- Laws of the bits of four machine words.
use Rattle.std.proofs.Common.{◌≡◌, ◌∙◌, ap, sym, refl, ℕ, zero, suc, ◌+◌, ◌-◌, ◌*◌, ◌/◌, ◌%◌, ◌^◌, ◌<◌, ◌≤◌, max, min, w64, bit_and, bit_or, arith, Bool, true, false, cond, not, ◌||◌, ◌&&◌, ◌⊎◌, inl, inr, nat_eq, List, length, get_or, map}
use Rattle.std.specs.Prelude.{bit_xor, replicate}
use Rattle.std.specs.Int.{bit_at, bit_not}
use Rattle.std.specs.Bool.{beq}
use Rattle.std.specs.Simd.Lanes.{zip2}
use Rattle.std.proofs.Math.Nat.{pow-suc}
use Rattle.std.proofs.lemmas.Bool.Decides.{nat_tests}
use Rattle.std.proofs.lemmas.Nat.{or_lt, xor_lt, and_le_l}
use Rattle.std.proofs.lemmas.Nat.Bits.{bit_at_lowest, bit_at-suc, bit_at-lt, bit_at_or, bit_at_and, bit_at_xor, bit_at_not, bit_at-zero, same_from_bits_below}
use Rattle.std.proofs.lemmas.List.{length-map, get_or_past, ext_get_or, get_or-map, get_or-replicate}
use Rattle.std.proofs.lemmas.List.FromFn.{length-map-range_with_len, get_or-map-range_with_len}
use Rattle.std.proofs.lemmas.Simd.{length-zip2, get_or-zip2}
use Rattle.ltl_sets.specs.Words.{IsWords, bit_in, number, words_of}
use Rattle.ltl_sets.specs.declared.row_set.TheConstants.RowSet.{LIMIT, WORDS}

-- ---- a number by its bits

doubled_lt : (k b m : ℕ) → b ≤ 1 → m < 2 ^ k → b + 2 * m < 2 ^ suc k
doubled_lt k b m one h = omega (arith, pow-suc 2 k)

cond_le : (t : Bool) → cond t 1 0 ≤ 1
cond_le true = omega arith
cond_le false = omega arith

half : (b m : ℕ) → b ≤ 1 → (b + 2 * m) / 2 ≡ m
half b m one = omega arith

odd : (b m : ℕ) → b ≤ 1 → (b + 2 * m) % 2 ≡ b
odd b m one = omega arith

number-lt : (k : ℕ) (p : ℕ → Bool) → number k p < 2 ^ k
unfolding number
number-lt zero p = omega arith
number-lt (suc k) p = doubled_lt k (cond (p 0) 1 0) (number k (λ i. p (suc i))) (cond_le (p 0)) (number-lt k (λ i. p (suc i)))

bit_at-number : (k : ℕ) (p : ℕ → Bool) (i : ℕ) → i < k → bit_at (number k p) i ≡ cond (p i) 1 0
unfolding number
bit_at-number zero p i h = absurd (omega arith)
bit_at-number (suc k) p zero h = bit_at_lowest (number (suc k) p) ∙ odd (cond (p 0) 1 0) (number k (λ i. p (suc i))) (cond_le (p 0))
bit_at-number (suc k) p (suc i) h =
    bit_at-suc (number (suc k) p) i ∙ ap (λ m. bit_at m i) (half (cond (p 0) 1 0) (number k (λ i. p (suc i))) (cond_le (p 0)))
    ∙ bit_at-number k (λ i. p (suc i)) i (omega arith)

-- ---- the tests of bits

pub either_one : (x y z : ℕ) → x < 2 → y < 2 → z ≡ max x y → nat_eq z 1 ≡ (nat_eq x 1 || nat_eq y 1)
either_one x y z h g e = grind (arith, nat_tests)

pub both_one : (x y z : ℕ) → x < 2 → y < 2 → z ≡ min x y → nat_eq z 1 ≡ (nat_eq x 1 && nat_eq y 1)
both_one x y z h g e = grind (arith, nat_tests)

one_without : (x y z : ℕ) → x < 2 → y < 2 → z ≡ min x (1 - y) → nat_eq z 1 ≡ (nat_eq x 1 && not (nat_eq y 1))
one_without x y z h g e = grind (arith, nat_tests)

pub below_two : (x : ℕ) → x < 2 → (x ≡ 0) ⊎ (x ≡ 1)
below_two x h = grind arith

one_alone : (x y z : ℕ) → x < 2 → y < 2 → z ≡ (x + y) % 2 → nat_eq z 1 ≡ not (beq (nat_eq x 1) (nat_eq y 1))
one_alone x y z h g e = by (below_two x h) (below_two y g)
  where
    by : (x ≡ 0) ⊎ (x ≡ 1) → (y ≡ 0) ⊎ (y ≡ 1) → nat_eq z 1 ≡ not (beq (nat_eq x 1) (nat_eq y 1))
    by (inl a) (inl b) = rw (e, a, b) refl
    by (inl a) (inr b) = rw (e, a, b) refl
    by (inr a) (inl b) = rw (e, a, b) refl
    by (inr a) (inr b) = rw (e, a, b) refl

same_one : (x y : ℕ) → x < 2 → y < 2 → nat_eq x 1 ≡ nat_eq y 1 → x ≡ y
same_one x y h g e = grind (arith, nat_tests)

one_of : (b : Bool) → nat_eq (cond b 1 0) 1 ≡ b
one_of true = refl
one_of false = refl

-- ---- the place of a bit

pub word_below : (i : ℕ) → i < LIMIT → i / 64 < WORDS
word_below i h = omega arith

pub place_below : (i : ℕ) → i % 64 < 64
place_below i = omega arith

pub place_whole : (i : ℕ) → 64 * (i / 64) + i % 64 ≡ i
place_whole i = omega arith

place_word : (k j : ℕ) → j < 64 → (64 * k + j) / 64 ≡ k
place_word k j h = omega arith

place_bit : (k j : ℕ) → j < 64 → (64 * k + j) % 64 ≡ j
place_bit k j h = omega arith

pub bit_in-place : (ws : List ℕ) (k j : ℕ) → j < 64 → bit_in ws (64 * k + j) ≡ nat_eq (bit_at (get_or ws k 0) j) 1
bit_in-place ws k j h = rw (place_word k j h, place_bit k j h) refl

-- ---- words, lane by lane

fits_in : (n : ℕ) → n ≡ 0 → n < 2 ^ 64
fits_in n e = omega arith

split_four : (k : ℕ) → (k < WORDS) ⊎ (WORDS ≤ k)
split_four k = grind arith

module _ (xs ys : List ℕ) (one : IsWords xs) (two : IsWords ys) where
  as_long : length xs ≡ length ys
  as_long = one.long ∙ sym two.long

  zip2_at : (f : ℕ → ℕ → ℕ) (k : ℕ) → k < WORDS → get_or (zip2 f xs ys) k 0 ≡ f (get_or xs k 0) (get_or ys k 0)
  zip2_at f k h = get_or-zip2 f xs ys k 0 0 0 (omega (arith, one.long)) (omega (arith, two.long))

  pub IsWords-zip2 : (f : ℕ → ℕ → ℕ) → ((x y : ℕ) → x < 2 ^ 64 → y < 2 ^ 64 → f x y < 2 ^ 64) → IsWords (zip2 f xs ys)
  IsWords-zip2 f bound = record {
    long = length-zip2 f xs ys as_long ∙ one.long;
    fit = λ k. elim (split_four k) [
      | inl h ↦ rw (zip2_at f k h) (bound (get_or xs k 0) (get_or ys k 0) (one.fit k) (two.fit k))
      | inr h ↦ fits_in _ (get_or_past (zip2 f xs ys) k 0 (omega (arith, length-zip2 f xs ys as_long, one.long)))
    ];
  }

  pub IsWords-or : IsWords (zip2 bit_or xs ys)
  IsWords-or = IsWords-zip2 bit_or (or_lt 64)

  pub IsWords-xor : IsWords (zip2 bit_xor xs ys)
  IsWords-xor = IsWords-zip2 bit_xor (xor_lt 64)

  pub IsWords-and : IsWords (zip2 bit_and xs ys)
  IsWords-and = IsWords-zip2 bit_and (λ x y h g. lower (bit_and x y) x (and_le_l x y) h)
    where
      lower : (a b : ℕ) → a ≤ b → b < 2 ^ 64 → a < 2 ^ 64
      lower a b l h = omega arith

  pub bit_in-or : (i : ℕ) → i < LIMIT → bit_in (zip2 bit_or xs ys) i ≡ (bit_in xs i || bit_in ys i)
  bit_in-or i h =
      ap (λ n. nat_eq (bit_at n (i % 64)) 1) (zip2_at bit_or (i / 64) (word_below i h))
      ∙ either_one _ _ _ (bit_at-lt (get_or xs (i / 64) 0) (i % 64)) (bit_at-lt (get_or ys (i / 64) 0) (i % 64)) (bit_at_or (get_or xs (i / 64) 0) (get_or ys (i / 64) 0) (i % 64))

  pub bit_in-and : (i : ℕ) → i < LIMIT → bit_in (zip2 bit_and xs ys) i ≡ (bit_in xs i && bit_in ys i)
  bit_in-and i h =
      ap (λ n. nat_eq (bit_at n (i % 64)) 1) (zip2_at bit_and (i / 64) (word_below i h))
      ∙ both_one _ _ _ (bit_at-lt (get_or xs (i / 64) 0) (i % 64)) (bit_at-lt (get_or ys (i / 64) 0) (i % 64)) (bit_at_and (get_or xs (i / 64) 0) (get_or ys (i / 64) 0) (i % 64))

  pub bit_in-xor : (i : ℕ) → i < LIMIT → bit_in (zip2 bit_xor xs ys) i ≡ not (beq (bit_in xs i) (bit_in ys i))
  bit_in-xor i h =
      ap (λ n. nat_eq (bit_at n (i % 64)) 1) (zip2_at bit_xor (i / 64) (word_below i h))
      ∙ one_alone _ _ _ (bit_at-lt (get_or xs (i / 64) 0) (i % 64)) (bit_at-lt (get_or ys (i / 64) 0) (i % 64)) (bit_at_xor (get_or xs (i / 64) 0) (get_or ys (i / 64) 0) (i % 64))

  -- words with the same bits are the same words
  pub same_words : ((i : ℕ) → i < LIMIT → bit_in xs i ≡ bit_in ys i) → xs ≡ ys
  same_words f =
      ext_get_or 0 xs ys as_long (λ k h. let four : k < WORDS = omega (arith, one.long) in
      same_from_bits_below 64 (get_or xs k 0) (get_or ys k 0) (one.fit k) (two.fit k) (λ j g.
      same_one _ _ (bit_at-lt (get_or xs k 0) j) (bit_at-lt (get_or ys k 0) j)
      (sym (bit_in-place xs k j g) ∙ f (64 * k + j) (omega arith) ∙ bit_in-place ys k j g)))

-- the complement of each word
pub IsWords-not : (xs : List ℕ) → IsWords xs → IsWords (map (bit_not w64) xs)
IsWords-not xs one = record {
  long = length-map xs (bit_not w64) ∙ one.long;
  fit = λ k. elim (split_four k) [
    | inl h ↦ rw (get_or-map (bit_not w64) xs k 0 0 (omega (arith, one.long))) (omega arith)
    | inr h ↦ fits_in _ (get_or_past (map (bit_not w64) xs) k 0 (omega (arith, length-map xs (bit_not w64), one.long)))
  ];
}

pub IsWords-without : (xs ys : List ℕ) → IsWords xs → IsWords ys → IsWords (zip2 bit_and xs (map (bit_not w64) ys))
IsWords-without xs ys one two = IsWords-and xs (map (bit_not w64) ys) one (IsWords-not ys two)

pub bit_in-without : (xs ys : List ℕ) → IsWords xs → IsWords ys → (i : ℕ) → i < LIMIT → bit_in (zip2 bit_and xs (map (bit_not w64) ys)) i ≡ (bit_in xs i && not (bit_in ys i))
bit_in-without xs ys one two i h =
    ap (λ n. nat_eq (bit_at n (i % 64)) 1)
    (zip2_at xs (map (bit_not w64) ys) one (IsWords-not ys two) bit_and (i / 64) (word_below i h)
    ∙ ap (bit_and (get_or xs (i / 64) 0)) (get_or-map (bit_not w64) ys (i / 64) 0 0 (omega (arith, two.long, word_below i h))))
    ∙ one_without (bit_at (get_or xs (i / 64) 0) (i % 64)) (bit_at (get_or ys (i / 64) 0) (i % 64)) _ (bit_at-lt (get_or xs (i / 64) 0) (i % 64)) (bit_at-lt (get_or ys (i / 64) 0) (i % 64))
    (bit_at_and (get_or xs (i / 64) 0) (bit_not w64 (get_or ys (i / 64) 0)) (i % 64)
    ∙ ap (min (bit_at (get_or xs (i / 64) 0) (i % 64))) (bit_at_not w64 (get_or ys (i / 64) 0) (i % 64) (two.fit (i / 64)) (place_below i)))

pub bit_in-empty : (i : ℕ) → i < LIMIT → bit_in (replicate WORDS 0) i ≡ false
bit_in-empty i h = ap (λ n. nat_eq (bit_at n (i % 64)) 1) (get_or-replicate WORDS (i / 64) 0 0 (word_below i h)) ∙ ap (λ n. nat_eq n 1) (bit_at-zero (i % 64))

-- the words of a test
words_at : (p : ℕ → Bool) (k : ℕ) → k < WORDS → get_or (words_of p) k 0 ≡ number 64 (λ j. p (64 * k + j))
unfolding words_of
words_at p k h = get_or-map-range_with_len (λ k. number 64 (λ j. p (64 * k + j))) 0 WORDS k k 0 h (omega arith)

words_long : (p : ℕ → Bool) → length (words_of p) ≡ WORDS
unfolding words_of
words_long p = length-map-range_with_len (λ k. number 64 (λ j. p (64 * k + j))) 0 WORDS

pub IsWords-words_of : (p : ℕ → Bool) → IsWords (words_of p)
IsWords-words_of p = record {
  long = words_long p;
  fit = λ k. elim (split_four k) [
    | inl h ↦ rw (words_at p k h) (number-lt 64 (λ j. p (64 * k + j)))
    | inr h ↦ fits_in _ (get_or_past (words_of p) k 0 (omega (arith, words_long p)))
  ];
}

pub bit_in-words_of : (p : ℕ → Bool) (i : ℕ) → i < LIMIT → bit_in (words_of p) i ≡ p i
bit_in-words_of p i h =
    ap (λ n. nat_eq (bit_at n (i % 64)) 1) (words_at p (i / 64) (word_below i h))
    ∙ ap (λ n. nat_eq n 1) (bit_at-number 64 (λ j. p (64 * (i / 64) + j)) (i % 64) (place_below i))
    ∙ one_of (p (64 * (i / 64) + i % 64))
    ∙ ap p (place_whole i)
