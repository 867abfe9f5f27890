-- The operations on the bits of acceptance sets as those on lists of numbers.
use Rattle.std.proofs.Common.{◌≡◌, ◌∙◌, ap, sym, refl, ℕ, ◌+◌, ◌*◌, ◌/◌, ◌%◌, ◌^◌, ◌<◌, w64, bit_and, bit_or, arith, nat_eq, List, [], ◌∷◌, ◌++◌, length, map}
use Rattle.std.specs.Int.{bit_not, trailing_zeros}
use Rattle.std.specs.List.{range_with_len}
use Rattle.std.specs.Ordering.{nat_cmp}
use Rattle.std.specs.Cmp.Lexicographic.{pointwise, bytes_decides}
use Rattle.std.proofs.lemmas.Bool.Decides.{same_from_decides, Decides-like, Decides-eqb}
use Rattle.std.proofs.lemmas.List.{append_assoc, append-nil}
use Rattle.std.proofs.lemmas.Nat.{pow_below}
use Rattle.ltl_spec.specs.Collections.Sets.{put, set_of}
use Rattle.ltl_spec.proofs.Collections.Orders.{nat_linear}
use Rattle.ltl_spec.proofs.Collections.SetLaws.{set_of_same}
use Rattle.ltl_sets.specs.Words.{word_alone}
use Rattle.ltl_sets.specs.PlaceLaws.{members_rise}
use Rattle.ltl_sets.proofs.LaneLaws.{bit_in-alone, IsLowest-words, LosesBit-words}
use Rattle.ltl_sets.proofs.RowSetLaws.{members_empty, members_insert, members_first}
use Rattle.ltl_hoa.specs.MarksView.{words_of_bits, marks_of, bits_with}
use Rattle.ltl_hoa.specs.MarksAgain.{bits_fit, bits_again}
use Rattle.ltl_hoa.proofs.BodySteps.{put_last}

pub no_marks : marks_of 0 ≡ []
no_marks = members_empty

-- ---- one set more

alone : (i : ℕ) → i / 64 ≡ 0 → i % 64 ≡ i → words_of_bits (2 ^ i) ≡ map (word_alone i) (range_with_len 0 4)
alone i e f = rw (e, f) refl

pub marks_put : (n i m : ℕ) → n < 2 ^ 64 → i < 32 → m ≡ 1 * 2 ^ i % 2 ^ 32 → marks_of (bit_or n m) ≡ put nat_cmp i (marks_of n)
marks_put n i m h l e =
    ap (λ p. marks_of (bit_or n p)) (e ∙ whole (2 ^ i) (pow_below i 32 l))
    ∙ members_insert (words_of_bits n) (words_of_bits (2 ^ i)) i (omega (arith, l)) (bits_fit n h) (bits_fit (2 ^ i) (let h0 = pow_below i 32 l in omega (arith, h0)))
    (bit_in-alone i (words_of_bits (2 ^ i)) (alone i (omega (arith, l)) (omega (arith, l))))
  where
    whole : (p : ℕ) → p < 2 ^ 32 → 1 * p % 2 ^ 32 ≡ p
    whole p g = omega (arith, g)

-- ---- one set after another

pub mark_first : (n i m : ℕ) → 0 < n → n < 2 ^ 64 → i ≡ trailing_zeros w64 n → m ≡ bit_and n (bit_not w64 (1 * 2 ^ i % 2 ^ 64)) → marks_of n ≡ i ∷ marks_of m
mark_first n i m some h e f =
    let t = trailing_zeros w64 n in
    members_first (words_of_bits n) (words_of_bits m) (64 * 0 + t) (IsLowest-words (words_of_bits n) 0 (omega arith) h some (λ k g. absurd (omega (arith, g))))
    (LosesBit-words (words_of_bits n) 0 (omega arith) h some refl m (f ∙ ap (λ j. bit_and n (bit_not w64 (1 * 2 ^ j % 2 ^ 64))) e))
    ∙ ap (λ j. j ∷ marks_of m) (at t i e)
  where
    at : (a b : ℕ) → b ≡ a → 64 * 0 + a ≡ b
    at a b g = omega (arith, g)

-- these numbers are those of all but for the ones that are left
abbrev pub AreTaken : List ℕ → List ℕ → ℕ → Type 0
AreTaken numbers all left = (taken : List ℕ) × (numbers ≡ set_of nat_cmp taken) × (taken ++ marks_of left ≡ all)

pub one_taken : (numbers all : List ℕ) (n i m : ℕ) → marks_of n ≡ i ∷ marks_of m → AreTaken numbers all n → AreTaken (put nat_cmp i numbers) all m
one_taken numbers all n i m e (taken, same, whole) =
    (taken ++ i ∷ [], ap (put nat_cmp i) same ∙ sym (put_last taken i), append_assoc taken (i ∷ []) (marks_of m) ∙ ap (λ xs. taken ++ xs) (sym e) ∙ whole)

pub all_taken : (numbers all : List ℕ) (n left : ℕ) → marks_of n ≡ all → left ≡ 0 → AreTaken numbers all left → numbers ≡ all
all_taken numbers all n left view none (taken, same, whole) =
    let are : taken ≡ marks_of n = sym (append-nil taken) ∙ ap (λ xs. taken ++ xs) (sym (ap marks_of none ∙ no_marks)) ∙ whole ∙ sym view in
    same ∙ ap (set_of nat_cmp) are ∙ set_of_same nat_linear (marks_of n) (members_rise (words_of_bits n)) ∙ view

pub fewer_left : (n i m : ℕ) → marks_of n ≡ i ∷ marks_of m → length (marks_of m) < length (marks_of n)
fewer_left n i m e = let same = ap length e in omega (arith, same)

-- ---- two of them

pub same_marks : (n m : ℕ) → n < 2 ^ 32 → m < 2 ^ 32 → nat_eq n m ≡ pointwise nat_eq (marks_of n) (marks_of m)
same_marks n m h l =
    same_from_decides (nat_eq n m) (pointwise nat_eq (marks_of n) (marks_of m))
    (Decides-like (nat_eq n m) (λ e. ap marks_of e) (λ e. sym (bits_again n h) ∙ ap bits_with e ∙ bits_again m l) (Decides-eqb n m))
    (bytes_decides (marks_of n) (marks_of m))
