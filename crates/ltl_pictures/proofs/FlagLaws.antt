-- The edges of a run, and flags for them.
use Rattle.std.proofs.Common.{◌≡◌, ◌∙◌, ap, ap₂, sym, refl, subst, ℕ, zero, suc, ◌+◌, ◌<◌, ◌≤◌, inl, inr, Bool, true, false, List, [], ◌∷◌, ◌++◌, length, slice_index_or, take, replicate, arith}
use Rattle.std.specs.Prelude.{◌==◌, ◌&&◌, ◌||◌, ◌↔◌, IsTrue, slice_set}
use Rattle.std.specs.List.{All, list_any, range_with_len}
use Rattle.std.specs.Bool.{Decides}
use Rattle.std.proofs.lemmas.Bool.{cases_eq}
use Rattle.std.proofs.lemmas.Bool.Decides.{nat_tests}
use Rattle.std.proofs.lemmas.List.{take_all, take_more}
use Rattle.ltl_spec.specs.Collections.Sets.{Has}
use Rattle.ltl_spec.specs.Hoa.HoaReading.{MarkedAutomaton}
use Rattle.ltl_spec.proofs.Collections.MemberLaws.{any_cases, any_true}
use Rattle.ltl_models.specs.BaView.{IsTargetOrder}
use Rattle.ltl_sets.specs.PlaceLaws.{Has-range}
use Rattle.ltl_text.proofs.OptionLaws.{range_below}
use Rattle.ltl_pictures.specs.declared.pick.Pick.{Pick}
use Rattle.ltl_pictures.specs.Picked.{AreFlags, IsPick, is_set}
use Rattle.ltl_pictures.specs.Picture.{edges_at}
use Rattle.ltl_pictures.specs.RunText.{AreShown, is_picked}
use Rattle.ltl_pictures.proofs.DrawnLaws.{are_drawn}

-- what is read at a place is there, whatever stands for nothing
pub any_default : {X : Type 0} (xs : List X) (i : ℕ) (d e : X) → i < length xs → slice_index_or xs i d ≡ slice_index_or xs i e
any_default [] i d e l = absurd (omega (arith, l))
any_default (x ∷ xs) zero d e l = refl
any_default (x ∷ xs) (suc i) d e l = any_default xs i d e (omega (arith, l))

-- ---- rows of flags and of indices
abbrev pub UnsetAt : MarkedAutomaton → ℕ → List Bool → Type 0
UnsetAt A k flags = (length flags ≡ length (edges_at A k)) × ((p : ℕ) → slice_index_or flags p false ≡ false)

pub none_set : (n p : ℕ) → slice_index_or (replicate n false) p false ≡ false
none_set zero zero = refl
none_set zero (suc p) = refl
none_set (suc n) zero = refl
none_set (suc n) (suc p) = none_set n p

abbrev pub SortedAt : MarkedAutomaton → ℕ → List ℕ → Type 0
SortedAt A k ps = IsTargetOrder (edges_at A k) ps

-- ---- one more flag
module _ {X : Type 0} where
  set_at : (xs : List X) (i : ℕ) (x d : X) → i < length xs → slice_index_or (slice_set xs i x) i d ≡ x
  set_at [] i x d l = absurd (omega (arith, l))
  set_at (y ∷ ys) zero x d l = refl
  set_at (y ∷ ys) (suc i) x d l = set_at ys i x d (omega (arith, l))

  set_off : (xs : List X) (i j : ℕ) (x d : X) → (j ≡ i → ⊥) → slice_index_or (slice_set xs i x) j d ≡ slice_index_or xs j d
  set_off [] i j x d n = refl
  set_off (y ∷ ys) zero zero x d n = absurd (n refl)
  set_off (y ∷ ys) zero (suc j) x d n = refl
  set_off (y ∷ ys) (suc i) zero x d n = refl
  set_off (y ∷ ys) (suc i) (suc j) x d n = set_off ys i j x d (λ e. n (ap suc e))

  set_long : (xs : List X) (i : ℕ) (x : X) → length (slice_set xs i x) ≡ length xs
  set_long [] i x = refl
  set_long (y ∷ ys) zero x = refl
  set_long (y ∷ ys) (suc i) x = ap suc (set_long ys i x)

any_push : {X : Type 0} (f : X → Bool) (xs : List X) (x : X) → list_any f (xs ++ x ∷ []) ≡ (list_any f xs || f x)
any_push f [] x = or_none (f x)
  where
    or_none : (b : Bool) → (b || false) ≡ b
    or_none true = refl
    or_none false = refl
any_push f (y ∷ ys) x = ap (λ b. f y || b) (any_push f ys x) ∙ grouped (f y) (list_any f ys) (f x)
  where
    grouped : (a b c : Bool) → (a || (b || c)) ≡ ((a || b) || c)
    grouped true b c = refl
    grouped false b c = refl

none_taken : (picks : List Pick) (k p : ℕ) → is_picked (take 0 picks) k p ≡ false
none_taken [] k p = refl
none_taken (q ∷ qs) k p = refl

pub flags_begin : (A : MarkedAutomaton) (picks : List Pick) (flags : List (List Bool)) → AreFlags A (λ _ _. false) flags → AreFlags A (is_picked (take 0 picks)) flags
flags_begin A picks flags a = record { long = a.long; rows = a.rows; set = λ k p l. a.set k p l ∙ sym (none_taken picks k p) }

pub flags_all : (A : MarkedAutomaton) (picks : List Pick) (n : ℕ) (flags : List (List Bool)) → length picks ≤ n → AreFlags A (is_picked (take n picks)) flags → AreFlags A (is_picked picks) flags
flags_all A picks n flags l a = subst (λ qs. AreFlags A (is_picked qs) flags) (take_all n picks l) a

pub picked_at : (A : MarkedAutomaton) (picks : List Pick) (i : ℕ) (q : Pick) → i < length picks → q ≡ slice_index_or picks i q → All (IsPick A) picks → IsPick A q
picked_at A picks i q l e all = subst (IsPick A) (sym e) (all i q l)

module _ (A : MarkedAutomaton) (picks : List Pick) (i : ℕ) (q : Pick) (old : List (List Bool)) (l : i < length picks) (is : q ≡ slice_index_or picks i q) (pick : IsPick A q) (a : AreFlags A (is_picked (take i picks)) old) where
  abbrev row : List Bool
  row = slice_index_or old q.state []

  abbrev next : List (List Bool)
  next = slice_set old q.state (slice_set row q.place true)

  more_picked : (k p : ℕ) → is_picked (take (i + 1) picks) k p ≡ (is_picked (take i picks) k p || (q.state == k && q.place == p))
  more_picked k p = ap (λ qs. is_picked qs k p) (take_more picks i q l ∙ ap (λ x. take i picks ++ x ∷ []) (sym is)) ∙ any_push (λ (x : Pick). x.state == k && x.place == p) (take i picks) q

  inside : q.state < length old
  inside = subst (λ n. q.state < n) (sym a.long) pick.0

  row_long : length row ≡ length (edges_at A q.state)
  row_long = a.rows q.state pick.0

  same_row : (k : ℕ) → k ≡ q.state → slice_index_or next k [] ≡ slice_set row q.place true
  same_row k e = ap (λ n. slice_index_or next n []) e ∙ set_at old q.state (slice_set row q.place true) [] inside

  other_row : (k : ℕ) → (k ≡ q.state → ⊥) → slice_index_or next k [] ≡ slice_index_or old k []
  other_row k n = set_off old q.state k (slice_set row q.place true) [] n

  rows_long : (k : ℕ) → k < A.states → length (slice_index_or next k []) ≡ length (edges_at A k)
  rows_long k m = elim (cases_eq k q.state) [
    | inl e ↦ ap length (same_row k e) ∙ set_long row q.place true ∙ row_long ∙ ap (λ n. length (edges_at A n)) (sym e)
    | inr n ↦ ap length (other_row k n) ∙ a.rows k m
  ]

  or_false : (b : Bool) → b ≡ (b || false)
  or_false true = refl
  or_false false = refl

  or_true : (b : Bool) → true ≡ (b || true)
  or_true true = refl
  or_true false = refl

  is_it : (k p s t : ℕ) → k ≡ s → p ≡ t → (s == k && t == p) ≡ true
  is_it k p s t e f = grind (arith, nat_tests)

  isnt_state : (k p s t : ℕ) → (k ≡ s → ⊥) → (s == k && t == p) ≡ false
  isnt_state k p s t n = grind (arith, nat_tests)

  isnt_place : (k p s t : ℕ) → (p ≡ t → ⊥) → (s == k && t == p) ≡ false
  isnt_place k p s t n = grind (arith, nat_tests)

  flag_is : (k p : ℕ) → k < A.states → slice_index_or (slice_index_or next k []) p false ≡ (is_picked (take i picks) k p || (q.state == k && q.place == p))
  flag_is k p m = elim (cases_eq k q.state) [
    | inl e ↦ elim (cases_eq p q.place) [
      | inl f ↦
          let room : q.place < length row = subst (λ n. q.place < n) (sym row_long) pick.1 in
          ap (λ xs. slice_index_or xs p false) (same_row k e) ∙ ap (λ n. slice_index_or (slice_set row q.place true) n false) f ∙ set_at row q.place true false room
          ∙ or_true (is_picked (take i picks) k p) ∙ ap (λ b. is_picked (take i picks) k p || b) (sym (is_it k p q.state q.place e f))
      | inr n ↦
          ap (λ xs. slice_index_or xs p false) (same_row k e) ∙ set_off row q.place p true false n ∙ ap (λ s. slice_index_or (slice_index_or old s []) p false) (sym e) ∙ a.set k p m
          ∙ or_false (is_picked (take i picks) k p) ∙ ap (λ b. is_picked (take i picks) k p || b) (sym (isnt_place k p q.state q.place n))
    ]
    | inr n ↦
        ap (λ xs. slice_index_or xs p false) (other_row k n) ∙ a.set k p m
        ∙ or_false (is_picked (take i picks) k p) ∙ ap (λ b. is_picked (take i picks) k p || b) (sym (isnt_state k p q.state q.place n))
  ]

  flags_next : AreFlags A (is_picked (take (i + 1) picks)) next
  flags_next = record {
    long = set_long old q.state (slice_set row q.place true) ∙ a.long;
    rows = rows_long;
    set = λ k p m. flag_is k p m ∙ sym (more_picked k p);
  }

pub flags_more : (A : MarkedAutomaton) (picks : List Pick) (i : ℕ) (q : Pick) (old new : List (List Bool)) → i < length picks → q ≡ slice_index_or picks i q → IsPick A q → AreFlags A (is_picked (take i picks)) old
    → new ≡ slice_set old q.state (slice_set (slice_index_or old q.state []) q.place true) → AreFlags A (is_picked (take (i + 1) picks)) new
flags_more A picks i q old new l is pick a e = subst (AreFlags A (is_picked (take (i + 1) picks))) (sym e) (flags_next A picks i q old l is pick a)

-- ---- what is picked
same_pick : (k p : ℕ) (q : Pick) → (q.state == k && q.place == p) ≡ true → record { state = k; place = p } ≡ q
same_pick k p q e =
    let s : q.state ≡ k = first q.state q.place k p e in
    let t : q.place ≡ p = second q.state q.place k p e in
    λ i. record { state = sym s i; place = sym t i }
  where
    first : (a b c d : ℕ) → (a == c && b == d) ≡ true → a ≡ c
    first a b c d e = grind (arith, nat_tests)

    second : (a b c d : ℕ) → (a == c && b == d) ≡ true → b ≡ d
    second a b c d e = grind (arith, nat_tests)

pub picked_Decides : (picks : List Pick) (k p : ℕ) → Decides (is_picked picks k p) (Has picks (record { state = k; place = p }))
picked_Decides picks k p = (
  (λ e. let (q, h, t) = any_cases (λ (q : Pick). q.state == k && q.place == p) picks e in subst (Has picks) (sym (same_pick k p q t)) h),
  λ h. any_true (λ (q : Pick). q.state == k && q.place == p) picks (record { state = k; place = p }) h (here k p),
)
  where
    here : (k p : ℕ) → (k == k && p == p) ≡ true
    here k p = grind (arith, nat_tests)

-- one of these edges is picked
pub one_picked : (picks : List Pick) (k : ℕ) (ps : List ℕ) → IsTrue (list_any (is_picked picks k) ps) ↔ ((p : ℕ) × Has ps p × Has picks (record { state = k; place = p }))
one_picked picks k ps = (
  (λ t. let (p, h, e) = any_cases (is_picked picks k) ps t in (p, h, (picked_Decides picks k p).0 e)),
  λ (p, h, m). any_true (is_picked picks k) ps p h ((picked_Decides picks k p).1 m),
)

pub are_shown : (picks : List Pick) (A : MarkedAutomaton) (k : ℕ) → AreShown picks A k
are_shown picks A k =
    let n = length (edges_at A k) in
    record {
      drawn = are_drawn k (edges_at A k);
      edge = λ p. picked_Decides picks k p;
      arrow = λ a h. one_picked picks k a.places;
      state = (
        (λ t. let (p, h, m) = (one_picked picks k (range_with_len 0 n)).0 t in let l = range_below 0 n p h in (p, omega (arith, l), m)),
        λ (p, l, m). (one_picked picks k (range_with_len 0 n)).1 (p, Has-range 0 n p (omega arith) (omega (arith, l)), m),
      );
    }

-- ---- flags of a state's edges
pub any_set : (flags : List Bool) (f : ℕ → Bool) (i : ℕ) → ((p : ℕ) → is_set flags p ≡ f (i + p)) → list_any f (range_with_len i (length flags)) ≡ list_any (λ b. b) flags
any_set [] f i s = refl
any_set (b ∷ bs) f i s =
    let here : i + 0 ≡ i = omega arith in
    ap₂ (λ x y. x || y) (ap f (sym here) ∙ sym (s 0)) (any_set bs f (i + 1) (λ p. let next : i + suc p ≡ i + 1 + p = omega arith in s (suc p) ∙ ap f next))
