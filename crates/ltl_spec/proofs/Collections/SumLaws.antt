-- Sums over different places of a list, and lists that only get shorter.
use Rattle.std.proofs.Common.{◌≡◌, ℕ, zero, suc, ◌+◌, ◌<◌, ◌≤◌, Bool, true, false, cond, ◌⊎◌, inl, inr, List, [], ◌∷◌, length, map, refl, sym, ◌∙◌, ap, subst, arith}
use Rattle.std.specs.Prelude.{slice_index_or, sum_by, take, filter}
use Rattle.std.specs.Bool.{Decides}
use Rattle.std.specs.declared.cmp.Ordering.{Ordering}
use Rattle.std.specs.declared.cmp.Ordering.TheVariants.{Less, Equal, Greater}
use Rattle.std.specs.Ordering.{nat_cmp}
use Rattle.std.proofs.lemmas.List.{append-nil}
use Rattle.std.proofs.lemmas.List.Sums.{sum_by-cons}
use Rattle.ltl_spec.specs.Collections.Sets.{Has, has, put, set_of, by_order}
use Rattle.ltl_spec.specs.Collections.Lists.{HasNoRepeats}
use Rattle.ltl_spec.proofs.Collections.SetLaws.{has_Decides}
use Rattle.ltl_spec.proofs.Collections.Orders.{nat_linear}
use Rattle.ltl_spec.proofs.Automata.CountsLaws.{sum_step}
use Rattle.std.proofs.Math.Seq.{take-length}

-- ---- lengths

put_length : {K : Type 0} (cmp : K → K → Ordering) (x : K) (ys : List K) → length (put cmp x ys) ≤ suc (length ys)
put_length cmp x [] = omega arith
put_length cmp x (y ∷ ys) =
    elim (cmp x y) as (λ o. length (by_order o (x ∷ y ∷ ys) (y ∷ ys) (y ∷ put cmp x ys)) ≤ suc (suc (length ys))) [
      | Less ↦ omega arith
      | Equal ↦ omega arith
      | Greater ↦ let l = put_length cmp x ys in omega arith
    ]

-- a set of a list's elements has no more of them
pub set_of_length : {K : Type 0} (cmp : K → K → Ordering) (xs : List K) → length (set_of cmp xs) ≤ length xs
set_of_length cmp [] = omega arith
set_of_length cmp (x ∷ xs) = let a = put_length cmp x (set_of cmp xs) in let b = set_of_length cmp xs in omega arith

-- nor have those that pass a test
pub filter_length : {K : Type 0} (p : K → Bool) (xs : List K) → length (filter p xs) ≤ length xs
filter_length p [] = omega arith
filter_length p (x ∷ xs) =
    let l = filter_length p xs in
    elim (p x) as (λ b. length (cond b (x ∷ filter p xs) (filter p xs)) ≤ suc (length xs)) [ true ↦ omega arith | false ↦ omega arith ]

-- ---- sums

-- a list without one of its elements
record IsWithout (f : ℕ → ℕ) (xs : List ℕ) (x : ℕ) (rest : List ℕ) : Type 0 where
  distinct : HasNoRepeats rest
  within : (z : ℕ) → Has rest z → Has xs z
  lacks : ¬ (Has rest x)
  sum : sum_by f xs ≡ f x + sum_by f rest

without : (f : ℕ → ℕ) (xs : List ℕ) (x : ℕ) → HasNoRepeats xs → Has xs x → (rest : List ℕ) × IsWithout f xs x rest
without f [] x d h = absurd h
without f (y ∷ ys) x d (inl e) = (
  ys,
  record {
    distinct = d.1;
    within = λ z h. inr h;
    lacks = λ h. d.0 (subst (Has ys) e h);
    sum = sum_by-cons f y ys ∙ ap (λ w. f w + sum_by f ys) (sym e);
  },
)
without f (y ∷ ys) x d (inr h) =
    let w = without f ys x d.1 h in (
      y ∷ w.0,
      record {
        distinct = (λ k. d.0 (w.1.within y k), w.1.distinct);
        within = λ z. elim [ inl e ↦ inl e | inr k ↦ inr (w.1.within z k) ];
        lacks = elim [ inl e ↦ d.0 (subst (Has ys) e h) | inr k ↦ w.1.lacks k ];
        sum = sums (f x) (f y) (sum_by f (y ∷ ys)) (sum_by f ys) (sum_by f w.0) (sum_by f (y ∷ w.0)) (sum_by-cons f y ys) (sum_by-cons f y w.0) w.1.sum;
      },
    )
  where
    sums : (a b s t u v : ℕ) → s ≡ b + t → v ≡ b + u → t ≡ a + u → s ≡ a + v
    sums a b s t u v p q r = omega arith

has_or_not : (x : ℕ) (xs : List ℕ) → Has xs x ⊎ (¬ (Has xs x))
has_or_not x xs =
    elim (has nat_cmp x xs) as (λ b. Decides b (Has xs x) → Has xs x ⊎ (¬ (Has xs x))) [
      | true ↦ λ d. inl (d.0 refl)
      | false ↦ λ d. inr (λ h. never (d.1 h))
    ] (has_Decides nat_linear x xs)
  where
    never : false ≡ true → ⊥
    never e = cc

none_has : (xs : List ℕ) → ((z : ℕ) → Has xs z → z < 0) → xs ≡ []
none_has [] h = refl
none_has (x ∷ xs) h = let l = h x (inl refl) in absurd (omega arith)

lower : (n z : ℕ) → z < suc n → (z ≡ n → ⊥) → z < n
lower n z l d = omega arith

pub taken_sum : {K : Type 0} (g : K → ℕ) (d : K) (ks : List K) (n : ℕ) (places : List ℕ) → n ≤ length ks → HasNoRepeats places → ((z : ℕ) → Has places z → z < n) → sum_by (λ k. g (slice_index_or ks k d)) places ≤ sum_by g (take n ks)
taken_sum g d ks zero places l r b = let e = ap (sum_by (λ k. g (slice_index_or ks k d))) (none_has places b) in omega arith
taken_sum g d ks (suc n) places l r b =
    let step = ap (λ xs. sum_by g (take (suc n) xs)) (sym (append-nil ks)) ∙ sum_step g ks [] n d (omega arith) in
    elim (has_or_not n places) [
      | inl h ↦
          let w = without (λ k. g (slice_index_or ks k d)) places n r h in
          let rest = taken_sum g d ks n w.0 (omega arith) w.1.distinct (λ z k. lower n z (b z (w.1.within z k)) (λ e. w.1.lacks (subst (Has w.0) e k))) in
          let s = w.1.sum in
          omega arith
      | inr h ↦
          let rest = taken_sum g d ks n places (omega arith) r (λ z k. lower n z (b z k) (λ e. h (subst (Has places) e k))) in
          omega arith
    ]

-- a sum over different places is at most that over the whole list
pub sum_distinct : {K : Type 0} (g : K → ℕ) (d : K) (ks : List K) (places : List ℕ) → HasNoRepeats places → ((z : ℕ) → Has places z → z < length ks) → sum_by (λ k. g (slice_index_or ks k d)) places ≤ sum_by g ks
sum_distinct g d ks places r b = subst (λ xs. sum_by (λ k. g (slice_index_or ks k d)) places ≤ sum_by g xs) (take-length ks) (taken_sum g d ks (length ks) places (omega arith) r b)

-- and no greater where each thing has less
pub sum_less : {K L : Type 0} (f : K → L) (g : L → ℕ) (h : K → ℕ) → ((x : K) → g (f x) ≤ h x) → (xs : List K) → sum_by g (map f xs) ≤ sum_by h xs
sum_less f g h e [] = omega arith
sum_less f g h e (x ∷ xs) =
    let a = sum_by-cons g (f x) (map f xs) in
    let b = sum_by-cons h x xs in
    let here = e x in
    let rest = sum_less f g h e xs in
    omega arith
