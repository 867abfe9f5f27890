-- Items of the tests of minimal elements, which need numbers and lack others.
use Rattle.std.specs.Prelude.{◌≡◌, ℕ, Bool, true, false, not, cond, nat_eq, ◌&&◌, List, []}
use Rattle.std.specs.List.{filter, list_any}
use Rattle.std.specs.Ordering.{nat_cmp}
use Rattle.std.proofs.Common.{ap, refl, sym, ◌∙◌}
use Rattle.ltl_spec.specs.Collections.Sets.{Has, has, is_subset}
use Rattle.ltl_spec.proofs.Collections.CaseLaws.{false_is_true, left_true, right_true}
use Rattle.ltl_spec.proofs.Collections.MemberLaws.{any_true}
use Rattle.ltl_spec.proofs.Collections.Orders.{nat_linear}
use Rattle.ltl_spec.proofs.Collections.SetLaws.{has_Decides, is_subset_Decides}
use Rattle.sets_tests.specs.declared.items.Item.{Item}

-- the numbers of kind 0 that the item needs; there are no others
abbrev pub numbers_needed : Item → ℕ → List ℕ
numbers_needed a kind = cond (nat_eq kind 0) a.needs []

abbrev pub is_lacked : Item → ℕ → ℕ → Bool
is_lacked a kind e = nat_eq kind 0 && has nat_cmp e a.lacks

-- b needs all that a needs, and nothing that a lacks
abbrev pub is_below : Item → Item → Bool
is_below a b = is_subset nat_cmp a.needs b.needs && not (list_any (λ e. has nat_cmp e b.needs) a.lacks)

by_kind : (c : Bool) (xs ys : List ℕ) (e : ℕ) → (Has xs e → Has ys e) → Has (cond c xs []) e → Has (cond c ys []) e
by_kind true xs ys e f h = f h
by_kind false xs ys e f h = h

pub below_needed : (a b : Item) (kind e : ℕ) → is_below a b ≡ true → Has (numbers_needed a kind) e → Has (numbers_needed b kind) e
below_needed a b kind e l = by_kind (nat_eq kind 0) a.needs b.needs e ((is_subset_Decides nat_linear a.needs b.needs).0 (left_true _ _ l) e)

not_lacked : (c d : Bool) (xs : List ℕ) (e : ℕ) → (Has xs e → d ≡ false) → Has (cond c xs []) e → (c && d) ≡ false
not_lacked true d xs e f h = f h
not_lacked false d xs e f h = refl

false_if : (b : Bool) → (b ≡ true → ⊥) → b ≡ false
false_if true f = absurd (f refl)
false_if false f = refl

not_both : (b : Bool) → not b ≡ true → b ≡ true → ⊥
not_both true e f = false_is_true e
not_both false e f = false_is_true f

pub below_asked : (a b : Item) (kind e : ℕ) → is_below a b ≡ true → Has (numbers_needed b kind) e → is_lacked a kind e ≡ false
below_asked a b kind e l =
    not_lacked (nat_eq kind 0) (has nat_cmp e a.lacks) b.needs e
    (λ h. false_if (has nat_cmp e a.lacks) (λ t. not_both (list_any (λ x. has nat_cmp x b.needs) a.lacks) (right_true _ _ l)
    (any_true (λ x. has nat_cmp x b.needs) a.lacks e ((has_Decides nat_linear e a.lacks).0 t) ((has_Decides nat_linear e b.needs).1 h))))
