-- Lists of sets, read by number.
use Rattle.std.proofs.Common.{◌≡◌, ◌≢◌, ◌∙◌, ◌⊎◌, inl, inr, [], ◌∷◌, ◌/◌, ap, sym, refl, ℕ, zero, suc, ◌+◌, ◌*◌, ◌%◌, ◌^◌, ◌<◌, ◌≤◌, w8, bit_and, arith, Bool, true, false, cond, not, nat_eq, List, length, get_or, map, take, drop, replicate}
use Rattle.std.specs.Prelude.{slice_set, slice_index_or}
use Rattle.std.specs.Int.{bit_at}
use Rattle.std.specs.Ordering.{nat_cmp}
use Rattle.std.specs.Simd.Lanes.{chunk, zip2, mask_l, top}
use Rattle.std.proofs.lemmas.Bool.Decides.{nat_tests}
use Rattle.std.proofs.lemmas.Nat.{pow_pos}
use Rattle.std.proofs.lemmas.Nat.Bits.{and_pow, bit_at-lt, bit_at-zero}
use Rattle.std.proofs.lemmas.List.{get_or-drop, get_or-set_other, get_or-set_same, get_or-take, get_or_default, get_or_past, length-map, length-take-le, take_all}
use Rattle.std.proofs.lemmas.Simd.{bit_mask_l, bitmask_splat, zip2_splat}
use Rattle.std.proofs.Math.ListN.{get_or-map}
use Rattle.ltl_spec.specs.Collections.Sets.{has}
use Rattle.ltl_sets.specs.Transposed.{AreBytes, AreIndices, AreMet, HaveNone, IsOctet}
use Rattle.ltl_sets.specs.Words.{members}
use Rattle.ltl_sets.specs.WordLaws.{place_below, word_below}
use Rattle.ltl_sets.specs.PlaceLaws.{has_members, members_below}
use Rattle.ltl_sets.proofs.RowSetLaws.{false_if, none_high}
use Rattle.ltl_spec.proofs.Collections.Orders.{nat_linear}
use Rattle.ltl_spec.proofs.Collections.SetLaws.{has_Decides}
use Rattle.ltl_sets.specs.declared.row_set.TheConstants.RowSet.{LIMIT, WORDS}

-- 64 bytes of the list
pub part_is : (bs : List ℕ) (at n j : ℕ) → 64 ≤ n → j < 64 → get_or (chunk 0 64 (take n (drop at bs))) j 0 ≡ get_or bs (at + j) 0
part_is bs at n j h l = get_or-take 64 (take n (drop at bs)) j 0 l ∙ get_or-take n (drop at bs) j 0 (omega arith) ∙ get_or-drop at bs j 0

-- a bit of the mask of the lanes that have a bit of m
pub bit_meeting : (vs : List ℕ) (m j : ℕ) → length vs ≡ 64
    → nat_eq (bit_at (mask_l (map (top 7) (zip2 (λ a b. cond (not (nat_eq a b)) 255 0) (zip2 bit_and vs (replicate 64 m)) (replicate 64 0))) % 2 ^ 64) j) 1 ≡ not (nat_eq (bit_and (get_or vs j 0) m) 0)
bit_meeting vs m j long =
    let met = map (λ v. bit_and v m) vs in
    let some = λ (x : ℕ). not (nat_eq x 0) in
    ap (λ n. nat_eq (bit_at n j) 1)
    (ap (λ us. mask_l (map (top 7) (zip2 (λ a b. cond (not (nat_eq a b)) 255 0) us (replicate 64 0))) % 2 ^ 64) (zip2_splat bit_and vs 64 m long)
    ∙ bitmask_splat w8 (λ a b. not (nat_eq a b)) met 64 0 (length-map vs (λ v. bit_and v m) ∙ long) (omega arith))
    ∙ ap (λ n. nat_eq n 1) (bit_mask_l (map some met) j)
    ∙ told (get_or (map some met) j false)
    ∙ get_or-map some met j 0
    ∙ ap some (get_or-map (λ v. bit_and v m) vs j 0)
  where
    told : (b : Bool) → nat_eq (cond b 1 0) 1 ≡ b
    told true = refl
    told false = refl

-- the test of one bit
pub test_bit : (n i : ℕ) → not (nat_eq (bit_and n (2 ^ i)) 0) ≡ nat_eq (bit_at n i) 1
test_bit n i = ap (λ m. not (nat_eq m 0)) (and_pow n i) ∙ of_bit (bit_at n i) (2 ^ i) (bit_at-lt n i) (pow_pos i)
  where
    none : (p : ℕ) → 0 * p ≡ 0
    none p = omega arith

    above : (p : ℕ) → 0 < p → not (nat_eq (1 * p) 0) ≡ true
    above p k = grind (arith, nat_tests)

    of_bit : (x p : ℕ) → x < 2 → 0 < p → not (nat_eq (x * p) 0) ≡ nat_eq x 1
    of_bit zero p h k = ap (λ n. not (nat_eq n 0)) (none p)
    of_bit (suc zero) p h k = above p k
    of_bit (suc (suc x)) p h k = absurd (omega arith)

-- ---- one byte after the other

zero_bit : (i : ℕ) → nat_eq (bit_at 0 i) 1 ≡ false
zero_bit i = ap (λ n. nat_eq n 1) (bit_at-zero i)

pub bytes_begin : (sets : List (List ℕ)) (k : ℕ) → AreBytes (take 0 sets) k (replicate LIMIT 0)
bytes_begin sets k i j h = ap (λ n. nat_eq (bit_at n i) 1) (zeros j LIMIT) ∙ zero_bit i
  where
    zeros : (j n : ℕ) → get_or (replicate n zero) j zero ≡ zero
    zeros j zero = refl
    zeros zero (suc n) = refl
    zeros (suc j) (suc n) = zeros j n

pub bytes_step : (sets : List (List ℕ)) (k n b : ℕ) (set : List ℕ) (bytes : List ℕ) → n < length sets → n < length bytes → set ≡ slice_index_or sets n set
    → ((i : ℕ) → i < 8 → nat_eq (bit_at b i) 1 ≡ has nat_cmp (8 * k + i) set) → AreBytes (take n sets) k bytes → AreBytes (take (n + 1) sets) k (slice_set bytes n b)
bytes_step sets k n b set bytes h l is byte f i j p = elim (same_or_not j n) [
  | inl e ↦
      ap (λ m. nat_eq (bit_at m i) 1) (ap (λ m. get_or (slice_set bytes n b) m 0) e ∙ get_or-set_same bytes n b 0 l)
      ∙ byte i p
      ∙ ap (has nat_cmp (8 * k + i)) (sym (ap (λ m. get_or (take (n + 1) sets) m []) e ∙ get_or-take (n + 1) sets n [] (omega arith) ∙ get_or_default sets n [] set h ∙ sym is))
  | inr d ↦
      ap (λ m. nat_eq (bit_at m i) 1) (get_or-set_other bytes n j b 0 d)
      ∙ f i j p
      ∙ ap (has nat_cmp (8 * k + i)) (others (earlier_or_later j n d))
]
  where
    same_or_not : (a b : ℕ) → (a ≡ b) ⊎ (a ≢ b)
    same_or_not a b = grind arith

    earlier_or_later : (a b : ℕ) → a ≢ b → (a < b) ⊎ (b + 1 ≤ a)
    earlier_or_later a b d = grind arith

    others : (j < n) ⊎ (n + 1 ≤ j) → get_or (take n sets) j [] ≡ get_or (take (n + 1) sets) j []
    others (inl a) = get_or-take n sets j [] a ∙ sym (get_or-take (n + 1) sets j [] (omega arith))
    others (inr a) = get_or_past (take n sets) j [] (omega (arith, length-take-le n sets (omega arith))) ∙ sym (get_or_past (take (n + 1) sets) j [] (omega (arith, length-take-le (n + 1) sets (omega arith))))

pub bytes_end : (sets : List (List ℕ)) (k n : ℕ) (bytes : List ℕ) → length sets ≤ n → AreBytes (take n sets) k bytes → AreBytes sets k bytes
bytes_end sets k n bytes h f i j p = f i j p ∙ ap (λ l. has nat_cmp (8 * k + i) (get_or l j [])) (take_all n sets h)

-- ---- the words of a column

pub indices_are : (bytes : List ℕ) (i a b c d : ℕ) → length bytes ≡ LIMIT
    → ((j : ℕ) → j < 64 → nat_eq (bit_at a j) 1 ≡ nat_eq (bit_at (get_or bytes (64 * 0 + j) 0) i) 1)
    → ((j : ℕ) → j < 64 → nat_eq (bit_at b j) 1 ≡ nat_eq (bit_at (get_or bytes (64 * 1 + j) 0) i) 1)
    → ((j : ℕ) → j < 64 → nat_eq (bit_at c j) 1 ≡ nat_eq (bit_at (get_or bytes (64 * 2 + j) 0) i) 1)
    → ((j : ℕ) → j < 64 → nat_eq (bit_at d j) 1 ≡ nat_eq (bit_at (get_or bytes (64 * 3 + j) 0) i) 1)
    → AreIndices bytes i (members (a ∷ b ∷ c ∷ d ∷ []))
indices_are bytes i a b c d long p q r s j = elim (inside_or_past j LIMIT) [
  | inl h ↦
      has_members ws j h
      ∙ word (j / 64) (j % 64) (word_below j h) (place_below j)
      ∙ ap (λ m. nat_eq (bit_at (get_or bytes m 0) i) 1) (omega arith)
  | inr h ↦ none_high (members ws) j (members_below ws) h ∙ sym (ap (λ n. nat_eq (bit_at n i) 1) (get_or_past bytes j 0 (omega (arith, long))) ∙ zero_bit i)
]
  where
    ws : List ℕ
    ws = a ∷ b ∷ c ∷ d ∷ []

    inside_or_past : (a b : ℕ) → (a < b) ⊎ (b ≤ a)
    inside_or_past a b = grind arith

    word : (k j : ℕ) → k < WORDS → j < 64 → nat_eq (bit_at (get_or ws k 0) j) 1 ≡ nat_eq (bit_at (get_or bytes (64 * k + j) 0) i) 1
    word zero j h l = p j l
    word (suc zero) j h l = q j l
    word (suc (suc zero)) j h l = r j l
    word (suc (suc (suc zero))) j h l = s j l
    word (suc (suc (suc (suc k)))) j h l = absurd (omega arith)

-- ---- numbers that aren't met

module _ (sets : List (List ℕ)) (met : List ℕ) (all : AreMet sets met) where
  not_met : (e j : ℕ) → has nat_cmp e met ≡ false → has nat_cmp e (get_or sets j []) ≡ false
  not_met e j f = false_if (has nat_cmp e (get_or sets j [])) (λ t. apart (has nat_cmp e met) ((has_Decides nat_linear e met).1 (all e j ((has_Decides nat_linear e (get_or sets j [])).0 t))) f)
    where
      apart : (b : Bool) → b ≡ true → b ≡ false → ⊥
      apart b p q = cc

  pub none_met : (k i : ℕ) (bytes : List ℕ) → i < 8 → AreBytes sets k bytes → has nat_cmp (8 * k + i) met ≡ false → HaveNone bytes i
  none_met k i bytes h f n j = f i j h ∙ not_met (8 * k + i) j n

  pub none_at_all : (k b : ℕ) (none : List ℕ) → none ≡ [] → b ≡ 0 → ((i : ℕ) → i < 8 → nat_eq (bit_at b i) 1 ≡ has nat_cmp (8 * k + i) met) → IsOctet sets k (replicate 8 none)
  none_at_all k b none n e f i j h = ap (has nat_cmp j) (empties i 8) ∙ sym (not_met (8 * k + i) j (sym (f i h) ∙ ap (λ m. nat_eq (bit_at m i) 1) e ∙ zero_bit i))
    where
      empties : (i n : ℕ) → get_or (replicate n none) i [] ≡ []
      empties i zero = refl
      empties zero (suc m) = n
      empties (suc i) (suc m) = empties i m
