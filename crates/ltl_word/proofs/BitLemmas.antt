-- Bits of words.
use Rattle.std.proofs.Common.{◌≡◌, ◌∙◌, ap, sym, refl, subst, ℕ, ◌+◌, ◌-◌, ◌*◌, ◌/◌, ◌%◌, ◌^◌, ◌<◌, ◌≤◌, w64, bit_and, bit_or, arith, Bool, true, false, not, ◌||◌, ◌&&◌, ◌⊎◌, inl, inr, nat_eq, List, [], ◌∷◌, ◌++◌, length}
use Rattle.std.specs.Prelude.{bit_xor, slice_index, ◌≢◌, replicate}
use Rattle.std.proofs.Common.{length-append, get_or}
use Rattle.std.proofs.lemmas.Bool.{cases_eq}
use Rattle.std.proofs.lemmas.List.{get_or-replicate, length-replicate}
use Rattle.std.specs.Int.{bit_at, bit_not}
use Rattle.std.specs.Bool.{beq}
use Rattle.std.proofs.lemmas.Nat.{and_mask, one_shl, shr-shr}
use Rattle.std.proofs.lemmas.Bool.Decides.{nat_tests}
use Rattle.std.proofs.lemmas.Nat.Bits.{bit_at-lt, bit_at_lowest, bit_at_or, bit_at_and, bit_at_xor, bit_at_not, bit_at-zero, bit_at_ones, bit_at-pow_same, bit_at-pow_other, bit_at_above}
use Rattle.std.proofs.Math.Bool.{or-true, or-false, and-false, and-true}
use Rattle.ltl_word.specs.Rows.{bit_of, IsRowFrom}
use Rattle.ltl_syntax.proofs.TreeLemmas.{push_at, push_before, push_length}
use Rattle.ltl_spec.proofs.Collections.CaseLaws.{last_or_below}
use Rattle.ltl_spec.proofs.Collections.CaseLaws.{nat_eq_same, nat_eq_other}
use Rattle.ltl_sets.specs.WordLaws.{either_one, both_one, below_two}

other_one : (x z : ℕ) → x < 2 → z ≡ 1 - x → nat_eq z 1 ≡ not (nat_eq x 1)
other_one x z h e = grind (arith, nat_tests)

same_one : (x y z : ℕ) → x < 2 → y < 2 → z ≡ (x + y) % 2 → not (nat_eq z 1) ≡ beq (nat_eq x 1) (nat_eq y 1)
same_one x y z h g e = by (below_two x h) (below_two y g)
  where
    by : (x ≡ 0) ⊎ (x ≡ 1) → (y ≡ 0) ⊎ (y ≡ 1) → not (nat_eq z 1) ≡ beq (nat_eq x 1) (nat_eq y 1)
    by (inl a) (inl b) = rw (e, a, b) refl
    by (inl a) (inr b) = rw (e, a, b) refl
    by (inr a) (inl b) = rw (e, a, b) refl
    by (inr a) (inr b) = rw (e, a, b) refl

abbrev one : ℕ → ℕ → Bool
one n k = nat_eq (bit_at n k) 1

pub one_or : (a b k : ℕ) → one (bit_or a b) k ≡ (one a k || one b k)
one_or a b k = either_one (bit_at a k) (bit_at b k) (bit_at (bit_or a b) k) (bit_at-lt a k) (bit_at-lt b k) (bit_at_or a b k)

pub one_and : (a b k : ℕ) → one (bit_and a b) k ≡ (one a k && one b k)
one_and a b k = both_one (bit_at a k) (bit_at b k) (bit_at (bit_and a b) k) (bit_at-lt a k) (bit_at-lt b k) (bit_at_and a b k)

pub one_not : (a k : ℕ) → a < 2 ^ 64 → k < 64 → one (bit_not w64 a) k ≡ not (one a k)
one_not a k l m = other_one (bit_at a k) (bit_at (bit_not w64 a) k) (bit_at-lt a k) (bit_at_not w64 a k l m)

pub one_iff : (a b k : ℕ) → bit_xor a b < 2 ^ 64 → k < 64 → one (bit_not w64 (bit_xor a b)) k ≡ beq (one a k) (one b k)
one_iff a b k l m = one_not (bit_xor a b) k l m ∙ same_one (bit_at a k) (bit_at b k) (bit_at (bit_xor a b) k) (bit_at-lt a k) (bit_at-lt b k) (bit_at_xor a b k)

pub one_implies : (a b k : ℕ) → a < 2 ^ 64 → k < 64 → one (bit_or (bit_not w64 a) b) k ≡ (not (one a k) || one b k)
one_implies a b k l m = one_or (bit_not w64 a) b k ∙ ap (λ t. t || one b k) (one_not a k l m)

-- the only bit of a word
pub one_bit : (k j : ℕ) → k < 64 → one (1 * 2 ^ k % 18446744073709551616) j ≡ nat_eq j k
one_bit k j l = elim (cases_eq j k) [
  | inl e ↦ ap (λ m. one (1 * 2 ^ k % 18446744073709551616) m) e ∙ ap (λ m. one m k) (one_shl k 64 l) ∙ ap (λ b. nat_eq b 1) (bit_at-pow_same k) ∙ sym (nat_eq_same j k e)
  | inr d ↦ ap (λ m. one m j) (one_shl k 64 l) ∙ ap (λ b. nat_eq b 1) (bit_at-pow_other k j d) ∙ sym (nat_eq_other j k d)
]

-- a bit that is put into a word
pub bit_more : (n k : ℕ) → k < 64 → one (bit_or n (1 * 2 ^ k % 18446744073709551616)) k ≡ true
bit_more n k l = one_or n (1 * 2 ^ k % 18446744073709551616) k ∙ ap (λ t. one n k || t) (one_bit k k l ∙ nat_eq_same k k refl) ∙ or-true (one n k)

pub others_more : (n k j : ℕ) → k < 64 → j ≢ k → one (bit_or n (1 * 2 ^ k % 18446744073709551616)) j ≡ one n j
others_more n k j l d = one_or n (1 * 2 ^ k % 18446744073709551616) j ∙ ap (λ t. one n j || t) (one_bit k j l ∙ nat_eq_other j k d) ∙ or-false (one n j)

bit_fits : (k : ℕ) → k < 64 → 1 * 2 ^ k % 18446744073709551616 < 2 ^ 64
bit_fits k l = omega arith

pub bit_less : (n k : ℕ) → k < 64 → one (bit_and n (bit_not w64 (1 * 2 ^ k % 18446744073709551616))) k ≡ false
bit_less n k l =
    one_and n (bit_not w64 (1 * 2 ^ k % 18446744073709551616)) k
    ∙ ap (λ t. one n k && t) (one_not (1 * 2 ^ k % 18446744073709551616) k (bit_fits k l) l ∙ ap not (one_bit k k l ∙ nat_eq_same k k refl)) ∙ and-false (one n k)

pub others_less : (n k j : ℕ) → k < 64 → j < 64 → j ≢ k → one (bit_and n (bit_not w64 (1 * 2 ^ k % 18446744073709551616))) j ≡ one n j
others_less n k j l m d =
    one_and n (bit_not w64 (1 * 2 ^ k % 18446744073709551616)) j
    ∙ ap (λ t. one n j && t) (one_not (1 * 2 ^ k % 18446744073709551616) j (bit_fits k l) m ∙ ap not (one_bit k j l ∙ nat_eq_other j k d)) ∙ and-true (one n j)

-- the bits of a word that is shifted
pub one_shr : (n s k : ℕ) → one (n / 2 ^ s) k ≡ one n (k + s)
one_shr n s k = let e : s + k ≡ k + s = omega arith in ap (λ x. nat_eq (x % 2) 1) (shr-shr n s k) ∙ ap (λ i. one n i) e

-- no bit is set above the others
pub none_above : (n k : ℕ) → n < 2 ^ 64 → 64 ≤ k → one n k ≡ false
none_above n k l m = ap (λ b. nat_eq b 1) (bit_at_above n 64 k l m)

pub ones_at : (k : ℕ) → k < 64 → one 18446744073709551615 k ≡ true
ones_at k l = ap (λ b. nat_eq b 1) (bit_at_ones 64 k l)

zeros_at : (k : ℕ) → one 0 k ≡ false
zeros_at k = ap (λ b. nat_eq b 1) (bit_at-zero k)

pub all_alike : (n i : ℕ) (value : Bool) (word : ℕ) (ws : List ℕ) → ws ≡ replicate n word → (value ≡ true → word ≡ 18446744073709551615) → (value ≡ false → word ≡ 0) → i / 64 < length ws → bit_of ws i ≡ value
all_alike n i value word ws e t f l =
    let long : i / 64 < n = subst (λ m. i / 64 < m) (ap length e ∙ length-replicate n word) l in
    ap (λ v. one (slice_index v (i / 64)) (i % 64)) e ∙ ap (λ w. one w (i % 64)) (get_or-replicate n (i / 64) word 0 long)
    ∙ elim value as (λ v. (v ≡ true → word ≡ 18446744073709551615) → (v ≡ false → word ≡ 0) → one word (i % 64) ≡ v) [
      | true ↦ λ g h. ap (λ w. one w (i % 64)) (g refl) ∙ ones_at (i % 64) (omega arith)
      | false ↦ λ g h. ap (λ w. one w (i % 64)) (h refl) ∙ zeros_at (i % 64)
    ] t f

-- what holds of each of a list holds of each of one that is longer by one thing of which it holds
pub each_pushed : {X : Type 0} (P : ℕ → X → Type 0) (xs ys : List X) (x d : X) → ys ≡ xs ++ x ∷ [] → ((k : ℕ) → k < length xs → P k (get_or xs k d)) → P (length xs) x → (k : ℕ) → k < length ys → P k (get_or ys k d)
each_pushed P xs ys x d e old new k l =
    elim (last_or_below k (length xs) (subst (λ n. k < n) (ap length e ∙ push_length xs x) l)) [
      | inl b ↦ subst (λ zs. P k (get_or zs k d)) (sym e) (subst (P k) (sym (push_before xs x k d b)) (old k b))
      | inr q ↦ subst (λ zs. P k (get_or zs k d)) (sym e) (subst (λ n. P n (get_or (xs ++ x ∷ []) n d)) (sym q) (subst (P (length xs)) (sym (push_at xs x d)) new))
    ]

-- the bit behind another one, in the same word or at the beginning of the next
pub bit_behind : (words made : List ℕ) → length made ≡ length words
    → ((k : ℕ) → k < length made → (j : ℕ) → j < 63 → one (slice_index made k) j ≡ one (slice_index words k) (j + 1))
    → ((k : ℕ) → k < length made → k + 1 < length words → one (slice_index made k) 63 ≡ one (slice_index words (k + 1)) 0)
    → (i : ℕ) → (i + 1) / 64 < length words → bit_of made i ≡ bit_of words (i + 1)
bit_behind words made long before last i l =
    elim (last_or_below (i % 64) 63 (omega arith)) [
      | inl b ↦ before (i / 64) (omega (arith, l, long)) (i % 64) b ∙ (λ t. one (slice_index words (same_word i b t)) (next_place i b t))
      | inr q ↦ ap (one (slice_index made (i / 64))) q ∙ last (i / 64) (omega (arith, l, long)) (omega (arith, l, q)) ∙ (λ t. one (slice_index words (next_word i q t)) (first_place i q t))
    ]
  where
    same_word : (i : ℕ) → i % 64 < 63 → i / 64 ≡ (i + 1) / 64
    same_word i b = omega (arith, b)

    next_place : (i : ℕ) → i % 64 < 63 → i % 64 + 1 ≡ (i + 1) % 64
    next_place i b = omega (arith, b)

    next_word : (i : ℕ) → i % 64 ≡ 63 → i / 64 + 1 ≡ (i + 1) / 64
    next_word i q = omega (arith, q)

    first_place : (i : ℕ) → i % 64 ≡ 63 → 0 ≡ (i + 1) % 64
    first_place i q = omega (arith, q)

-- rows from a position on

-- one bit more
pub row_more : (f : ℕ → Bool) (i count : ℕ) (old new : List ℕ) (value : Bool) → i + 1 ≤ count → IsRowFrom f (i + 1) count old → length new ≡ length old → bit_of new i ≡ value
    → ((j : ℕ) → j / 64 < length old → j ≢ i → bit_of new j ≡ bit_of old j) → value ≡ f i → IsRowFrom f i count new
row_more f i count old new value w h e here others v = record {
  long = e ∙ h.long;
  done = λ j m n. let l = h.long in let within : j / 64 < length old = omega arith in elim (cases_eq j i) [
    | inl q ↦ ap (bit_of new) q ∙ here ∙ v ∙ ap f (sym q)
    | inr d ↦ others j within d ∙ h.done j (omega arith) n
  ];
}

-- one row more
pub count_push : {X : Type 0} (xs : List X) (x : X) (ys : List X) (n : ℕ) → ys ≡ xs ++ x ∷ [] → length xs ≡ n → length ys ≡ n + 1
count_push xs x ys n e l = let m = length-append xs (x ∷ []) in let k = ap length e in omega (arith, l, m, k)

-- the test of the lowest bit
pub lowest_bit : (n : ℕ) → nat_eq (bit_and n 1) 1 ≡ one n 0
lowest_bit n = ap (λ x. nat_eq x 1) (and_mask n 1 ∙ sym (bit_at_lowest n))
