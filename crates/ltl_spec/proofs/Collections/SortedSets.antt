-- Sorting a list and dropping duplicates gives the set of its elements: by a key that distinguishes elements, or by the elements themselves.
use Rattle.std.proofs.Common.{◌≡◌, Bool, List, [], ◌∷◌, map, refl, sym, ◌∙◌, ap, subst, IsPermutation}
use Rattle.std.specs.declared.cmp.Ordering.{Ordering}
use Rattle.std.specs.declared.cmp.Ordering.TheVariants.{Less, Equal, Greater}
use Rattle.std.specs.Ordering.{is_eq, is_lt, eq_by_cmp}
use Rattle.std.specs.Bool.{Decides}
use Rattle.std.specs.Cmp.{IsEquivalence, IsStrictWeakOrder, IsTotalOrder}
use Rattle.std.specs.Fn.{Called, ComparesAs}
use Rattle.std.specs.List.{dedup, Contains}
use Rattle.std.specs.List.Retain.{IsFiltered, DiffersFromLast}
use Rattle.std.specs.List.Sorted.{IsSortedBy, IsStrictlySortedBy, IsSorted}
use Rattle.std.proofs.lemmas.Bool.Decides.{same_from_decides}
use Rattle.std.proofs.lemmas.Cmp.{tied_itself, on_total}
use Rattle.std.proofs.lemmas.Fn.{always_returns_same}
use Rattle.std.proofs.lemmas.List.Filters.{dedup_is}
use Rattle.std.proofs.lemmas.List.Kept.{IsStrictlySortedBy-dedup, Contains-dedup, Contains-from_dedup}
use Rattle.std.proofs.lemmas.List.Sorted.{ranks_by, Contains-permutation, IsPermutation-sym}
use denote.Param.Members.{Mut}
use denote.Ref.{Bor}
use Rattle.ltl_spec.specs.Collections.Sets.{Has, IsRising, set_of, put, by_order, IsLinearOrder}
use Rattle.ltl_spec.proofs.Collections.SetLaws.{IsRising-set_of, set_of_cases, Has-set_of, same_members, all_from, all_at}
use Rattle.ltl_spec.proofs.Collections.ListLaws.{Has-from_contains, Contains-from_has}
use Rattle.ltl_spec.proofs.Collections.MemberLaws.{Has-map, map_cases}

module _ {X Y : Type 0} {R : Y → Y → Ordering} (o : IsLinearOrder R) (key : X → Y) (exact : (x y : X) → key x ≡ key y → x ≡ y) where
  -- by the keys
  abbrev by_key : X → X → Ordering
  by_key x y = R (key x) (key y)

  pub tied : (x y : X) → Decides (is_eq (by_key x y)) (x ≡ y)
  tied x y =
      elim (R (key x) (key y)) as (λ r. R (key x) (key y) ≡ r → Decides (is_eq r) (x ≡ y)) [
        | Less ↦ λ e. ((λ t. cc), λ h. absurd (never Less (sym e ∙ ap (λ z. R (key x) (key z)) (sym h) ∙ tied_itself o.total (key x)) (λ q. cc)))
        | Equal ↦ λ e. ((λ t. exact x y (o.exact (key x) (key y) e)), λ h. refl)
        | Greater ↦ λ e. ((λ t. cc), λ h. absurd (never Greater (sym e ∙ ap (λ z. R (key x) (key z)) (sym h) ∙ tied_itself o.total (key x)) (λ q. cc)))
      ] refl
    where
      never : (r : Ordering) → r ≡ Equal → (r ≡ Equal → ⊥) → ⊥
      never r e f = f e

  -- strictly sorted by keys: the keys rise
  rising : (xs : List X) → IsStrictlySortedBy by_key xs → IsRising R (map key xs)
  unfolding IsStrictlySortedBy
  rising [] s = tt
  rising (x ∷ xs) s =
      (all_from (λ z. R (key x) z ≡ Less) (map key xs) (λ z h. let w = map_cases key xs z h in subst (λ k. R (key x) k ≡ Less) (sym w.2) (all_at (λ y. by_key x y ≡ Less) xs w.0 s.0 w.1)), rising xs s.1)

  module _ (same : X → X → Bool) (decides : (x y : X) → Decides (same x y) (x ≡ y)) where
    equivalence : IsEquivalence same
    equivalence = record {
      refl = λ x. (decides x x).1 refl;
      symm = λ x y. same_from_decides (same x y) (same y x) (decides x y) ((λ e. sym ((decides y x).0 e)), λ e. (decides y x).1 (sym e));
      congr = λ x y z e. ap (λ w. same w z) ((decides x y).0 e);
    }

    -- a sorted permutation without repetitions
    pub sorted_set : (xs ys zs : List X) → IsPermutation xs ys → IsSortedBy (λ x y. is_lt (R (key x) (key y))) ys → IsFiltered (DiffersFromLast same) [] ys zs → map key zs ≡ set_of R (map key xs)
    sorted_set xs ys zs p s f =
        let d : zs ≡ dedup same ys = dedup_is same ys zs f in
        let ties : (x y : X) → same x y ≡ eq_by_cmp by_key x y = λ x y. same_from_decides (same x y) (is_eq (by_key x y)) (decides x y) (tied x y) in
        let up : IsStrictlySortedBy by_key zs = subst (IsStrictlySortedBy by_key) (sym d) (IsStrictlySortedBy-dedup (on_total key o.total) ties ys s) in
        same_members o (map key zs) (set_of R (map key xs)) (rising zs up) (IsRising-set_of o (map key xs))
        (λ z h. Has-set_of o (map key xs) z (back z h))
        (λ z h. forth z (set_of_cases o (map key xs) z h))
      where
        back : (z : Y) → Has (map key zs) z → Has (map key xs) z
        back z h =
            let w = map_cases key zs z h in
            let c = Contains-from_dedup same ys w.0 (subst (λ l. Contains l w.0) (dedup_is same ys zs f) (Contains-from_has zs w.0 w.1)) in
            subst (Has (map key xs)) (sym w.2) (Has-map key xs w.0 (Has-from_contains xs w.0 (Contains-permutation ys xs w.0 (IsPermutation-sym xs ys p) c)))

        forth : (z : Y) → Has (map key xs) z → Has (map key zs) z
        forth z h =
            let w = map_cases key xs z h in
            let c = Contains-dedup equivalence (λ x y. (decides x y).0) ys w.0 (Contains-permutation xs ys w.0 p (Contains-from_has xs w.0 w.1)) in
            subst (Has (map key zs)) (sym w.2) (Has-map key zs w.0 (Has-from_contains zs w.0 (subst (λ l. Contains l w.0) (sym (dedup_is same ys zs f)) c)))

-- what `sort_unstable_by` says, where each call of its closure compares the keys
pub sorted_by : {X Y : Type 0} {R : Y → Y → Ordering} → IsTotalOrder R → (key : X → Y) → {F : Type 0} {g : Mut F (Bor X × (Bor X × Unit {0})) Ordering} {f : F} (ys : List X)
    → ((lt : X → X → Bool) → IsStrictWeakOrder lt → ComparesAs g lt f → IsSortedBy lt ys)
    → ((a : Bor X × (Bor X × Unit {0})) (r : Ordering) (f' : F) → Called g f a r f' → (r ≡ R (key a.0.now) (key a.1.0.now)) × (f' ≡ f)) → IsSortedBy (λ x y. is_lt (R (key x) (key y))) ys
sorted_by {R = R} o key {g = g} {f = f} ys up h =
    up (λ x y. is_lt (R (key x) (key y))) (ranks_by o key)
    (always_returns_same g (λ a r. is_lt r ≡ is_lt (R (key a.0.now) (key a.1.0.now))) f (λ a r f' k. (ap is_lt (h a r f' k).0, (h a r f' k).1)))

-- the same, of the elements themselves
pub sorted_set_itself : {X : Type 0} {R : X → X → Ordering} → IsLinearOrder R → (same : X → X → Bool) → ((x y : X) → Decides (same x y) (x ≡ y)) → (xs ys zs : List X)
    → IsPermutation xs ys → IsSorted R ys → IsFiltered (DiffersFromLast same) [] ys zs → zs ≡ set_of R xs
sorted_set_itself {R = R} o same decides xs ys zs p s f =
    sym (unchanged zs) ∙ sorted_set o (λ x. x) (λ x y e. e) same decides xs ys zs p s f ∙ ap (set_of R) (unchanged xs)
  where
    unchanged : {X : Type 0} (xs : List X) → map (λ x. x) xs ≡ xs
    unchanged [] = refl
    unchanged (x ∷ xs) = ap (λ l. x ∷ l) (unchanged xs)

-- the set of the keys is the set of the elements by their keys
pub set_of_keys : {X Y : Type 0} (R : Y → Y → Ordering) (key : X → Y) (xs : List X) → map key (set_of (λ x y. R (key x) (key y)) xs) ≡ set_of R (map key xs)
set_of_keys R key [] = refl
set_of_keys R key (x ∷ xs) = put_key x (set_of (λ a b. R (key a) (key b)) xs) ∙ ap (put R (key x)) (set_of_keys R key xs)
  where
    put_key : (x : _) (ys : List _) → map key (put (λ a b. R (key a) (key b)) x ys) ≡ put R (key x) (map key ys)
    put_key x [] = refl
    put_key x (y ∷ ys) =
        elim (R (key x) (key y)) as (λ r. map key (by_order r (x ∷ y ∷ ys) (y ∷ ys) (y ∷ put (λ a b. R (key a) (key b)) x ys)) ≡ by_order r (key x ∷ key y ∷ map key ys) (key y ∷ map key ys) (key y ∷ put R (key x) (map key ys))) [
          | Less ↦ refl
          | Equal ↦ refl
          | Greater ↦ ap (λ l. key y ∷ l) (put_key x ys)
        ]
