-- The elements of lists without duplicates, their positions, and how many there can be.
use Rattle.std.proofs.Common.{◌≡◌, ℕ, zero, suc, ◌+◌, ◌-◌, ◌<◌, ◌≤◌, Bool, true, false, cond, not, ◌||◌, ◌⊎◌, inl, inr, List, [], ◌∷◌, ◌++◌, length, refl, sym, ◌∙◌, ap, subst, arith, eqb, lt-ltb, Some, None, map}
use Rattle.std.specs.Prelude.{slice_index_or, fold, Contains, slice_get, All}
use Rattle.std.specs.declared.cmp.Ordering.TheVariants.{Less, Equal, Greater}
use Rattle.std.specs.Bool.{Decides}
use Rattle.std.specs.List.{AllByRecursion, list_any, IsDistinct}
use Rattle.std.specs.Ordering.{nat_cmp}
use Rattle.std.proofs.lemmas.Bool.Decides.{Decides-eqb}
use Rattle.std.proofs.lemmas.List.{length-map, get_or_append_left}
use Rattle.std.proofs.lemmas.Map.Steps.{length-le_from_distinct_below}
use Rattle.ltl_spec.specs.Collections.Sets.{Has, IsRising}
use Rattle.ltl_spec.specs.Collections.Lists.{HasNoRepeats, with_new, first_occurrences, place_of, places_from}
use Rattle.ltl_spec.proofs.Collections.SetLaws.{append_cases, append_left, append_right, all_from}
use Rattle.ltl_spec.proofs.Collections.CaseLaws.{false_is_true}
use Rattle.ltl_spec.proofs.Collections.MemberLaws.{map_cases}

-- `Has` is std's `Contains`
pub Has-from_contains : {K : Type 0} (xs : List K) (x : K) → Contains xs x → Has xs x
Has-from_contains {K} xs x c = at xs c.0 c.1 c.2
  where
    at : (ys : List K) (k : ℕ) → k < length ys → slice_index_or ys k x ≡ x → Has ys x
    at [] k l e = absurd (omega arith)
    at (y ∷ ys) zero l e = inl (sym e)
    at (y ∷ ys) (suc k) l e = inr (at ys k (omega arith) e)

pub Contains-from_has : {K : Type 0} (xs : List K) (x : K) → Has xs x → Contains xs x
Contains-from_has [] x h = absurd h
Contains-from_has (y ∷ ys) x (inl e) = (0, omega arith, sym e)
Contains-from_has (y ∷ ys) x (inr h) = let (k, l, e) = Contains-from_has ys x h in (suc k, omega arith, e)

-- each place has an element
pub Has-at : {K : Type 0} (xs : List K) (k : ℕ) (d : K) → k < length xs → Has xs (slice_index_or xs k d)
Has-at [] k d l = absurd (omega arith)
Has-at (x ∷ xs) zero d l = inl refl
Has-at (x ∷ xs) (suc k) d l = inr (Has-at xs k d (omega arith))

-- one more that isn't there keeps that
pub HasNoRepeats-push : {K : Type 0} (xs : List K) (x : K) → HasNoRepeats xs → ¬ (Has xs x) → HasNoRepeats (xs ++ x ∷ [])
HasNoRepeats-push [] x d n = ((λ h. h), tt)
HasNoRepeats-push (y ∷ ys) x d n =
    ((λ h. elim (append_cases ys (x ∷ []) y h) [ inl k ↦ d.0 k | inr k ↦ elim k [ inl e ↦ n (inl (sym e)) | inr z ↦ z ] ]), HasNoRepeats-push ys x d.1 (λ h. n (inr h)))

-- `same` decides whether two things are equal
module _ {K : Type 0} (same : K → K → Bool) (decides : (x y : K) → Decides (same x y) (x ≡ y)) where
  pub any_Decides : (x : K) (xs : List K) → Decides (list_any (same x) xs) (Has xs x)
  any_Decides x [] = ((λ e. false_is_true e), λ h. absurd h)
  any_Decides x (y ∷ ys) =
      elim (same x y) as (λ b. Decides b (x ≡ y) → Decides (b || list_any (same x) ys) (Has (y ∷ ys) x)) [
        | true ↦ λ d. ((λ t. inl (d.0 refl)), λ h. refl)
        | false ↦ λ d. ((λ t. inr ((any_Decides x ys).0 t)), elim [ inl e ↦ false_is_true (d.1 e) | inr h ↦ (any_Decides x ys).1 h ])
      ] (decides x y)

  -- the place of an element lies within the list, and the element stands there
  pub place_below : (x : K) (xs : List K) → Has xs x → place_of same x xs < length xs
  place_below x [] h = absurd h
  place_below x (y ∷ ys) h =
      elim (same x y) as (λ b. Decides b (x ≡ y) → cond (not b) (1 + place_of same x ys) 0 < length (y ∷ ys)) [
        | true ↦ λ d. omega arith
        | false ↦ λ d. elim h [ inl e ↦ false_is_true (d.1 e) | inr k ↦ let l : place_of same x ys < length ys = place_below x ys k in omega arith ]
      ] (decides x y)

  one_more : (n : ℕ) (y d : K) (ys : List K) → slice_index_or (y ∷ ys) (1 + n) d ≡ slice_index_or ys n d
  one_more n y d ys = let e : 1 + n ≡ suc n = omega arith in ap (λ m. slice_index_or (y ∷ ys) m d) e

  pub at_place : (x : K) (xs : List K) (d : K) → Has xs x → slice_index_or xs (place_of same x xs) d ≡ x
  at_place x [] d h = absurd h
  at_place x (y ∷ ys) d h =
      elim (same x y) as (λ b. Decides b (x ≡ y) → slice_index_or (y ∷ ys) (cond (not b) (1 + place_of same x ys) 0) d ≡ x) [
        | true ↦ λ c. sym (c.0 refl)
        | false ↦ λ c. elim h [ inl e ↦ false_is_true (c.1 e) | inr k ↦ one_more (place_of same x ys) y d ys ∙ at_place x ys d k ]
      ] (decides x y)

  -- two elements with one place are equal
  pub place_same : (x y : K) (xs : List K) → Has xs x → Has xs y → place_of same x xs ≡ place_of same y xs → x ≡ y
  place_same x y xs h k e = sym (at_place x xs x h) ∙ ap (λ n. slice_index_or xs n x) e ∙ at_place y xs x k

  -- with a new one come that one and no other
  pub with_new_cases : (xs : List K) (x z : K) → Has (with_new same xs x) z → Has xs z ⊎ (z ≡ x)
  with_new_cases xs x z h =
      elim (list_any (same x) xs) as (λ b. Has (cond b xs (xs ++ x ∷ [])) z → Has xs z ⊎ (z ≡ x)) [
        | true ↦ λ k. inl k
        | false ↦ λ k. elim (append_cases xs (x ∷ []) z k) [ inl m ↦ inl m | inr m ↦ elim m [ inl e ↦ inr e | inr n ↦ absurd n ] ]
      ] h

  pub with_new_old : (xs : List K) (x z : K) → Has xs z → Has (with_new same xs x) z
  with_new_old xs x z h = elim (list_any (same x) xs) as (λ b. Has (cond b xs (xs ++ x ∷ [])) z) [ true ↦ h | false ↦ append_left xs (x ∷ []) z h ]

  pub with_new_new : (xs : List K) (x : K) → Has (with_new same xs x) x
  with_new_new xs x =
      elim (list_any (same x) xs) as (λ b. Decides b (Has xs x) → Has (cond b xs (xs ++ x ∷ [])) x) [ true ↦ λ d. d.0 refl | false ↦ λ d. append_right xs (x ∷ []) x (inl refl) ] (any_Decides x xs)

  pub HasNoRepeats-with_new : (xs : List K) (x : K) → HasNoRepeats xs → HasNoRepeats (with_new same xs x)
  HasNoRepeats-with_new xs x d =
      elim (list_any (same x) xs) as (λ b. Decides b (Has xs x) → HasNoRepeats (cond b xs (xs ++ x ∷ []))) [
        | true ↦ λ c. d
        | false ↦ λ c. HasNoRepeats-push xs x d (λ h. false_is_true (c.1 h))
      ] (any_Decides x xs)

  -- the same for many
  pub fold_cases : (ys xs : List K) (z : K) → Has (fold (with_new same) xs ys) z → Has xs z ⊎ Has ys z
  fold_cases [] xs z h = inl h
  fold_cases (y ∷ ys) xs z h = elim (fold_cases ys (with_new same xs y) z h) [
    | inl k ↦ elim (with_new_cases xs y z k) [ inl m ↦ inl m | inr e ↦ inr (inl e) ]
    | inr k ↦ inr (inr k)
  ]

  pub fold_old : (ys xs : List K) (z : K) → Has xs z → Has (fold (with_new same) xs ys) z
  fold_old [] xs z h = h
  fold_old (y ∷ ys) xs z h = fold_old ys (with_new same xs y) z (with_new_old xs y z h)

  pub fold_new : (ys xs : List K) (z : K) → Has ys z → Has (fold (with_new same) xs ys) z
  fold_new [] xs z h = absurd h
  fold_new (y ∷ ys) xs z (inl e) = fold_old ys (with_new same xs y) z (subst (λ w. Has (with_new same xs y) w) (sym e) (with_new_new xs y))
  fold_new (y ∷ ys) xs z (inr h) = fold_new ys (with_new same xs y) z h

  pub HasNoRepeats-fold : (ys xs : List K) → HasNoRepeats xs → HasNoRepeats (fold (with_new same) xs ys)
  HasNoRepeats-fold [] xs d = d
  HasNoRepeats-fold (y ∷ ys) xs d = HasNoRepeats-fold ys (with_new same xs y) (HasNoRepeats-with_new xs y d)

  pub first_occurrences_cases : (xs : List K) (z : K) → Has (first_occurrences same xs) z → Has xs z
  first_occurrences_cases xs z h = elim (fold_cases xs [] z h) [ inl k ↦ absurd k | inr k ↦ k ]

  pub Has-first_occurrences : (xs : List K) (z : K) → Has xs z → Has (first_occurrences same xs) z
  Has-first_occurrences xs z h = fold_new xs [] z h

  pub HasNoRepeats-first_occurrences : (xs : List K) → HasNoRepeats (first_occurrences same xs)
  HasNoRepeats-first_occurrences xs = HasNoRepeats-fold xs [] tt

-- the places from n on of the elements that pass rise, and are at least n
places_above : {K : Type 0} (p : K → Bool) (m n : ℕ) (xs : List K) → m < n → AllByRecursion (λ k. nat_cmp m k ≡ Less) (places_from p n xs)
places_above p m n [] l = tt
places_above p m n (x ∷ xs) l =
    let rest = places_above p m (n + 1) xs (omega arith) in
    elim (p x) as (λ b. AllByRecursion (λ k. nat_cmp m k ≡ Less) (cond b (n ∷ places_from p (n + 1) xs) (places_from p (n + 1) xs))) [
      | true ↦ (less m n l, rest)
      | false ↦ rest
    ]
  where
    less : (i j : ℕ) → i < j → nat_cmp i j ≡ Less
    less i j h = ap (λ b. cond b Less (cond (eqb i j) Equal Greater)) (lt-ltb i j h)

pub IsRising-places : {K : Type 0} (p : K → Bool) (n : ℕ) (xs : List K) → IsRising nat_cmp (places_from p n xs)
IsRising-places p n [] = tt
IsRising-places p n (x ∷ xs) =
    let rest = IsRising-places p (n + 1) xs in
    elim (p x) as (λ b. IsRising nat_cmp (cond b (n ∷ places_from p (n + 1) xs) (places_from p (n + 1) xs))) [
      | true ↦ (places_above p n (n + 1) xs (omega arith), rest)
      | false ↦ rest
    ]

-- a place counted from n is that of an element that passes, and each such element has its place
pub places_cases : {K : Type 0} (p : K → Bool) (n : ℕ) (xs : List K) (d : K) (k : ℕ) → Has (places_from p n xs) k → (n ≤ k) × (k < n + length xs) × (p (slice_index_or xs (k - n) d) ≡ true)
places_cases p n [] d k h = absurd h
places_cases p n (x ∷ xs) d k h =
    elim (p x) as (λ b. p x ≡ b → Has (cond b (n ∷ places_from p (n + 1) xs) (places_from p (n + 1) xs)) k → (n ≤ k) × (k < n + length (x ∷ xs)) × (p (slice_index_or (x ∷ xs) (k - n) d) ≡ true)) [
      | true ↦ λ e. elim [ inl i ↦ here e i | inr m ↦ later (places_cases p (n + 1) xs d k m) ]
      | false ↦ λ e m. later (places_cases p (n + 1) xs d k m)
    ] refl h
  where
    here : p x ≡ true → k ≡ n → (n ≤ k) × (k < n + length (x ∷ xs)) × (p (slice_index_or (x ∷ xs) (k - n) d) ≡ true)
    here e i = let z : k - n ≡ 0 = omega arith in (omega arith, omega arith, ap (λ j. p (slice_index_or (x ∷ xs) j d)) z ∙ e)

    later : (n + 1 ≤ k) × (k < n + 1 + length xs) × (p (slice_index_or xs (k - (n + 1)) d) ≡ true) → (n ≤ k) × (k < n + length (x ∷ xs)) × (p (slice_index_or (x ∷ xs) (k - n) d) ≡ true)
    later w = let l = w.0 in let m = w.1 in let z : k - n ≡ suc (k - (n + 1)) = omega arith in (omega arith, omega arith, ap (λ j. p (slice_index_or (x ∷ xs) j d)) z ∙ w.2)

pub Has-places : {K : Type 0} (p : K → Bool) (n : ℕ) (xs : List K) (d : K) (k : ℕ) → k < length xs → p (slice_index_or xs k d) ≡ true → Has (places_from p n xs) (n + k)
Has-places p n [] d k l e = absurd (omega arith)
Has-places p n (x ∷ xs) d zero l e =
    let first : n + 0 ≡ n = omega arith in
    subst (λ b. Has (cond b (n ∷ places_from p (n + 1) xs) (places_from p (n + 1) xs)) (n + 0)) (sym e) (inl first)
Has-places p n (x ∷ xs) d (suc k) l e =
    let same_place : n + 1 + k ≡ n + suc k = omega arith in
    let rest = subst (Has (places_from p (n + 1) xs)) same_place (Has-places p (n + 1) xs d k (omega arith) e) in
    elim (p x) as (λ b. Has (cond b (n ∷ places_from p (n + 1) xs) (places_from p (n + 1) xs)) (n + suc k)) [ true ↦ inr rest | false ↦ rest ]

-- a function under which different elements stay different keeps that none stands twice
pub HasNoRepeats-map : {K L : Type 0} (f : K → L) (xs : List K) → ((x y : K) → Has xs x → Has xs y → f x ≡ f y → x ≡ y) → HasNoRepeats xs → HasNoRepeats (map f xs)
HasNoRepeats-map f [] apart d = tt
HasNoRepeats-map f (x ∷ xs) apart d =
    ((λ h. let w = map_cases f xs (f x) h in d.0 (subst (Has xs) (sym (apart x w.0 (inl refl) (inr w.1) w.2)) w.1)), HasNoRepeats-map f xs (λ y z h k. apart y z (inr h) (inr k)) d.1)

-- numbers below n, none of which stands twice, are at most n
pub numbers_short : (n : ℕ) (xs : List ℕ) → HasNoRepeats xs → ((x : ℕ) → Has xs x → x < n) → length xs ≤ n
unfolding IsDistinct
numbers_short n xs d below = length-le_from_distinct_below xs n (distinct xs d) (λ q t. below q ((any_Decides eqb Decides-eqb q xs).0 t))
  where
    differs : (x z : ℕ) → (x ≡ z → ⊥) → eqb x z ≡ false
    differs x z n = elim (eqb x z) as (λ b. Decides b (x ≡ z) → b ≡ false) [ true ↦ λ c. absurd (n (c.0 refl)) | false ↦ λ c. refl ] (Decides-eqb x z)

    distinct : (ys : List ℕ) → HasNoRepeats ys → IsDistinct eqb ys
    distinct [] r = tt
    distinct (y ∷ ys) r = (all_from (λ z. eqb y z ≡ false) ys (λ z h. differs y z (λ e. r.0 (subst (Has ys) (sym e) h))), distinct ys r.1)

-- different things with different numbers below n are at most n
pub numbered_short : {K : Type 0} (xs : List K) (number : K → ℕ) (n : ℕ) → HasNoRepeats xs → ((x : K) → Has xs x → number x < n) → ((x y : K) → Has xs x → Has xs y → number x ≡ number y → x ≡ y) → length xs ≤ n
numbered_short xs number n d below apart =
    let l = numbers_short n (map number xs) (HasNoRepeats-map number xs apart d) (λ k h. let w = map_cases number xs k h in subst (λ m. m < n) (sym w.2) (below w.0 w.1)) in
    subst (λ m. m ≤ n) (length-map xs number) l

-- what stands at a place is an element
pub slice_get_has : {K : Type 0} (xs : List K) (i : ℕ) (s : K) → slice_get xs i ≡ Some s → Has xs s
slice_get_has [] i s e = absurd (never e)
  where
    never : None ≡ Some s → ⊥
    never d = cc
slice_get_has (x ∷ xs) zero s e = inl cc
slice_get_has (x ∷ xs) (suc i) s e = inr (slice_get_has xs i s e)

-- in a list in which nothing stands twice, what stands at a place has that place
pub place_again : {K : Type 0} (same : K → K → Bool) (decides : (x y : K) → Decides (same x y) (x ≡ y)) (xs : List K) (i : ℕ) (d : K) → HasNoRepeats xs → i < length xs → place_of same (slice_index_or xs i d) xs ≡ i
place_again same decides [] i d r l = absurd (omega arith)
place_again same decides (x ∷ xs) zero d r l = ap (λ b. cond (not b) (1 + place_of same x xs) 0) ((decides x x).1 refl)
place_again same decides (x ∷ xs) (suc i) d r l =
    let y = slice_index_or xs i d in
    let k : i < length xs = omega arith in
    let e = place_again same decides xs i d r.1 k in
    elim (same y x) as (λ b. Decides b (y ≡ x) → cond (not b) (1 + place_of same y xs) 0 ≡ suc i) [
      | true ↦ λ c. absurd (r.0 (subst (Has xs) (c.0 refl) (Has-at xs i d k)))
      | false ↦ λ c. let one : 1 + place_of same y xs ≡ suc i = omega (arith, e) in one
    ] (decides y x)

-- what is put behind changes no place before
pub index_append : {K : Type 0} (xs ys : List K) (k : ℕ) (d : K) → k < length xs → slice_index_or (xs ++ ys) k d ≡ slice_index_or xs k d
index_append xs ys k d l = get_or_append_left xs ys d k l

-- what stands behind the elements of a list
pub index_done : {K : Type 0} (done rest : List K) (x d : K) → slice_index_or (done ++ x ∷ rest) (length done) d ≡ x
index_done [] rest x d = refl
index_done (y ∷ done) rest x d = index_done done rest x d

pub get_done : {X : Type 0} (done rest : List X) (x : X) → slice_get (done ++ x ∷ rest) (length done) ≡ Some x
get_done [] rest x = refl
get_done (y ∷ done) rest x = get_done done rest x

pub get_end : {X : Type 0} (xs : List X) → slice_get xs (length xs) ≡ None
get_end [] = refl
get_end (x ∷ xs) = get_end xs

-- what holds at each place holds of each element
pub All-at_has : {K : Type 0} (P : K → Type 0) (xs : List K) → All P xs → (x : K) → Has xs x → P x
All-at_has P xs f x h = let (k, l, e) = Contains-from_has xs x h in subst P e (f k x l)

-- and the other way round
pub All-from_has : {K : Type 0} (P : K → Type 0) (xs : List K) → ((x : K) → Has xs x → P x) → All P xs
All-from_has P xs f k d l = f (slice_index_or xs k d) (Has-at xs k d l)
