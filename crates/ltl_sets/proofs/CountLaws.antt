-- The number of the members of a bit set and of the literals of a cube, and the set of all numbers.
use Rattle.std.proofs.Common.{◌≡◌, ◌∙◌, ap, sym, refl, ℕ, zero, suc, ◌+◌, ◌-◌, ◌*◌, ◌/◌, ◌%◌, ◌^◌, ◌<◌, ◌≤◌, arith, Bool, true, false, cond, not, ◌⊎◌, inl, inr, nat_eq, nat_lt, List, ◌∷◌, ◌++◌, length, get_or}
use Rattle.std.specs.Prelude.{replicate}
use Rattle.std.specs.Int.{bit_at}
use Rattle.std.specs.Int.Count.{ones, ones_in}
use Rattle.std.specs.List.{filter, range_with_len}
use Rattle.std.specs.Ordering.{nat_cmp}
use Rattle.std.proofs.Math.Nat.{pow-suc}
use Rattle.std.proofs.lemmas.Bool.Decides.{nat_tests}
use Rattle.std.proofs.lemmas.List.{length-append, length-map, get_or-replicate}
use Rattle.std.proofs.lemmas.List.Filters.{length-filter_both}
use Rattle.std.proofs.lemmas.List.Elements.{filter-append}
use Rattle.std.proofs.lemmas.Nat.Bits.{bit_at_lowest, bit_at-suc, bit_at_ones}
use Rattle.ltl_spec.specs.Collections.Sets.{has}
use Rattle.ltl_spec.specs.Transitions.Cubes.{Cube, Literal}
use Rattle.ltl_sets.specs.Words.{IsWords, bit_in, forbidden_of, letter_of, members, places}
use Rattle.ltl_sets.specs.WordLaws.{bit_in-place, place_below, word_below}
use Rattle.ltl_sets.specs.PlaceLaws.{has_members, members_below}
use Rattle.ltl_sets.proofs.RowSetLaws.{none_high}
use Rattle.ltl_sets.specs.declared.row_set.TheConstants.RowSet.{LIMIT, WORDS}

-- ---- the ones of a number

plain : (m : ℕ) → m ≡ 0 → 0 + m ≡ 0
plain m e = omega arith

zero_ones : (d : ℕ) → ones_in d 0 ≡ 0
unfolding ones_in
zero_ones zero = refl
zero_ones (suc d) = plain (ones_in d 0) (zero_ones d)

none_of : (d n : ℕ) → n < 2 ^ 0 → ones_in d n ≡ 0
none_of d n h = let e : n ≡ 0 = omega arith in ap (ones_in d) e ∙ zero_ones d

halved : (k n : ℕ) → n < 2 ^ suc k → n / 2 < 2 ^ k
halved k n h = omega (arith, pow-suc 2 k)

-- two numbers of digits that are enough
enough : (k d n : ℕ) → n < 2 ^ k → n < 2 ^ d → ones_in d n ≡ ones_in k n
unfolding ones_in
enough zero d n h g = none_of d n h
enough (suc k) zero n h g = sym (none_of (suc k) n g)
enough (suc k) (suc d) n h g = ap (λ m. n % 2 + m) (enough k d (n / 2) (halved k n h) (halved d n g))

below_power : (n : ℕ) → n < 2 ^ n
below_power zero = omega arith
below_power (suc n) = let h = below_power n in omega (arith, h, pow-suc 2 n)

as_bit : (m : ℕ) → m < 2 → m ≡ cond (nat_eq m 1) 1 0
as_bit zero h = refl
as_bit (suc zero) h = refl
as_bit (suc (suc m)) h = absurd (omega arith)

one_more : (b : Bool) (x : ℕ) (xs : List ℕ) → length (cond b (x ∷ xs) xs) ≡ cond b 1 0 + length xs
one_more true x xs = omega arith
one_more false x xs = omega arith

next : (a j : ℕ) → a + suc j ≡ (a + 1) + j
next a j = omega arith

first : (a : ℕ) → a ≡ a + 0
first a = omega arith

-- the numbers of a range whose bits are ones are as many as the ones of the number
counted : (k n a : ℕ) (p : ℕ → Bool) → ((j : ℕ) → j < k → p (a + j) ≡ nat_eq (bit_at n j) 1) → length (filter p (range_with_len a k)) ≡ ones_in k n
unfolding ones_in
counted zero n a p f = refl
counted (suc k) n a p f =
    one_more (p a) a (filter p (range_with_len (a + 1) k))
    ∙ ap (λ b. cond b 1 0 + length (filter p (range_with_len (a + 1) k))) (ap p (first a) ∙ f 0 (omega arith) ∙ ap (λ m. nat_eq m 1) (bit_at_lowest n))
    ∙ ap (λ m. cond (nat_eq (n % 2) 1) 1 0 + m) (counted k (n / 2) (a + 1) p (λ j h. ap p (sym (next a j)) ∙ f (suc j) (omega arith) ∙ ap (λ m. nat_eq m 1) (bit_at-suc n j)))
    ∙ ap (λ m. m + ones_in k (n / 2)) (sym (as_bit (n % 2) (omega arith)))

-- ---- four words

none_before : (n : ℕ) → 0 + n ≡ n
none_before n = omega arith

one_before : (m n : ℕ) → suc m + n ≡ suc (m + n)
one_before m n = omega arith

joined : (a m n : ℕ) → range_with_len a (m + n) ≡ range_with_len a m ++ range_with_len (a + m) n
joined a zero n = ap (range_with_len a) (none_before n) ∙ ap (λ b. range_with_len b n) (first a)
joined a (suc m) n =
    ap (range_with_len a) (one_before m n)
    ∙ ap (λ l. a ∷ l) (joined (a + 1) m n ∙ ap (λ b. range_with_len (a + 1) m ++ range_with_len b n) (sym (next a m)))

split_count : (p : ℕ → Bool) (a m n : ℕ) → length (filter p (range_with_len a (m + n))) ≡ length (filter p (range_with_len a m)) + length (filter p (range_with_len (a + m) n))
split_count p a m n =
    ap (λ l. length (filter p l)) (joined a m n) ∙ ap length (filter-append p (range_with_len a m) (range_with_len (a + m) n))
    ∙ length-append (filter p (range_with_len a m)) (filter p (range_with_len (a + m) n))

word_count : (ws : List ℕ) → IsWords ws → (k : ℕ) → length (filter (bit_in ws) (range_with_len (64 * k) 64)) ≡ ones (get_or ws k 0)
unfolding ones
word_count ws one k =
    counted 64 (get_or ws k 0) (64 * k) (bit_in ws) (bit_in-place ws k)
    ∙ enough (get_or ws k 0) 64 (get_or ws k 0) (below_power (get_or ws k 0)) (one.fit k)

pub count_members : (ws : List ℕ) → IsWords ws → ones (get_or ws 0 0) + ones (get_or ws 1 0) + ones (get_or ws 2 0) + ones (get_or ws 3 0) ≡ length (members ws)
unfolding members places
count_members ws one =
    let a = word_count ws one 0 in
    let b = word_count ws one 1 in
    let c = word_count ws one 2 in
    let d = word_count ws one 3 in
    let x = split_count (bit_in ws) 0 64 192 in
    let y = split_count (bit_in ws) 64 64 128 in
    let z = split_count (bit_in ws) 128 64 64 in
    sym (x ∙ ap (λ m. m + length (filter (bit_in ws) (range_with_len 64 192))) a
    ∙ ap (λ m. ones (get_or ws 0 0) + m) (y ∙ ap (λ m. m + length (filter (bit_in ws) (range_with_len 128 128))) b
    ∙ ap (λ m. ones (get_or ws 1 0) + m) (z ∙ ap (λ m. m + length (filter (bit_in ws) (range_with_len 192 64))) c ∙ ap (λ m. ones (get_or ws 2 0) + m) d))
    ∙ regrouped (ones (get_or ws 0 0)) (ones (get_or ws 1 0)) (ones (get_or ws 2 0)) (ones (get_or ws 3 0)))
  where
    regrouped : (a b c d : ℕ) → a + (b + (c + d)) ≡ a + b + c + d
    regrouped a b c d = omega arith

-- ---- all numbers

split_limit : (i : ℕ) → (i < LIMIT) ⊎ (LIMIT ≤ i)
split_limit i = grind arith

inside : (i : ℕ) → i < LIMIT → nat_lt i LIMIT ≡ true
inside i h = grind (arith, nat_tests)

outside : (i : ℕ) → LIMIT ≤ i → nat_lt i LIMIT ≡ false
outside i h = grind (arith, nat_tests)

pub has_all : (i : ℕ) → has nat_cmp i (members (replicate WORDS (2 ^ 64 - 1))) ≡ nat_lt i LIMIT
has_all i = elim (split_limit i) [
  | inl h ↦
      has_members (replicate WORDS (2 ^ 64 - 1)) i h
      ∙ ap (λ n. nat_eq (bit_at n (i % 64)) 1) (get_or-replicate WORDS (i / 64) (2 ^ 64 - 1) 0 (word_below i h))
      ∙ ap (λ n. nat_eq n 1) (bit_at_ones 64 (i % 64) (place_below i))
      ∙ sym (inside i h)
  | inr h ↦ none_high (members (replicate WORDS (2 ^ 64 - 1))) i (members_below (replicate WORDS (2 ^ 64 - 1))) h ∙ sym (outside i h)
]

-- ---- literals

-- a cube has as many literals as it has positive and negative ones
pub signs_counted : (c : Cube) (a b : ℕ) → a ≡ length (letter_of c) → b ≡ length (forbidden_of c) → a + b ≡ length c
signs_counted c a b e f =
    let whole = length-filter_both (λ (l : Literal). l.positive) (λ l. not l.positive) (λ l. refl) c in
    let letter = length-map (filter (λ (l : Literal). l.positive) c) (λ l. l.proposition) in
    let forbidden = length-map (filter (λ (l : Literal). not l.positive) c) (λ l. l.proposition) in
    omega (arith, e, f, whole, letter, forbidden)
