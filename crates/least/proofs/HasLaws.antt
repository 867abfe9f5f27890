-- Which numbers are in a union, and in the part of a set that passes a test.
use Rattle.std.proofs.Common.{◌≡◌, ℕ, Bool, true, false, ◌&&◌, ◌||◌, ◌⊎◌, inl, inr, List, refl, sym}
use Rattle.std.specs.List.{filter}
use Rattle.std.specs.Ordering.{nat_cmp}
use Rattle.std.proofs.lemmas.Bool.Decides.{Decides-and, Decides-like, same_from_decides}
use Rattle.ltl_spec.specs.Collections.Sets.{Has, has, union}
use Rattle.ltl_spec.proofs.Collections.CaseLaws.{false_is_true}
use Rattle.ltl_spec.proofs.Collections.Orders.{nat_linear}
use Rattle.ltl_spec.proofs.Collections.SetLaws.{Has-filter, filter_cases, has_Decides, union_cases, union_left, union_right}

pub has_from : (j : ℕ) (xs : List ℕ) → Has xs j → has nat_cmp j xs ≡ true
has_from j xs h = (has_Decides nat_linear j xs).1 h

pub from_has : (j : ℕ) (xs : List ℕ) → has nat_cmp j xs ≡ true → Has xs j
from_has j xs e = (has_Decides nat_linear j xs).0 e

pub same_truth : (a b : Bool) → (a ≡ true → b ≡ true) → (b ≡ true → a ≡ true) → a ≡ b
same_truth true b f g = sym (f refl)
same_truth false true f g = g refl
same_truth false false f g = refl

either_true : (a b : Bool) → (a || b) ≡ true → (a ≡ true) ⊎ (b ≡ true)
either_true true b e = inl refl
either_true false b e = inr e

first_true : (a b : Bool) → a ≡ true → (a || b) ≡ true
first_true true b e = refl
first_true false b e = false_is_true e

second_true : (a b : Bool) → b ≡ true → (a || b) ≡ true
second_true true b e = refl
second_true false b e = e

pub has_union : (j : ℕ) (xs ys : List ℕ) → has nat_cmp j (union nat_cmp xs ys) ≡ (has nat_cmp j xs || has nat_cmp j ys)
has_union j xs ys =
    same_truth (has nat_cmp j (union nat_cmp xs ys)) (has nat_cmp j xs || has nat_cmp j ys)
    (λ e. elim (union_cases nat_linear xs ys j (from_has j (union nat_cmp xs ys) e)) [
      | inl h ↦ first_true (has nat_cmp j xs) (has nat_cmp j ys) (has_from j xs h)
      | inr h ↦ second_true (has nat_cmp j xs) (has nat_cmp j ys) (has_from j ys h)
    ])
    (λ e. has_from j (union nat_cmp xs ys) (elim (either_true (has nat_cmp j xs) (has nat_cmp j ys) e) [
      | inl h ↦ union_left nat_linear xs ys j (from_has j xs h)
      | inr h ↦ union_right nat_linear xs ys j (from_has j ys h)
    ]))

pub has_filter : (p : ℕ → Bool) (j : ℕ) (xs : List ℕ) → has nat_cmp j (filter p xs) ≡ (has nat_cmp j xs && p j)
has_filter p j xs =
    let x = has nat_cmp j xs in
    same_from_decides (has nat_cmp j (filter p xs)) (x && p j) (has_Decides nat_linear j (filter p xs))
    (Decides-like {P = Has xs j × (p j ≡ true)} {Q = Has (filter p xs) j} (x && p j) (λ h. Has-filter p xs j h.0 h.1) (filter_cases p xs j) (Decides-and x (p j) (has_Decides nat_linear j xs) (λ e. e, λ e. e)))

pub false_if : (b : Bool) → (b ≡ true → ⊥) → b ≡ false
false_if true f = absurd (f refl)
false_if false f = refl
