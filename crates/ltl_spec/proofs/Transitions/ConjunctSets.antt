-- The conjuncts of a set of rows as a set of numbers: their order doesn't matter.
use Rattle.std.proofs.Common.{◌≡◌, ℕ, Bool, true, false, cond, not, inl, inr, List, [], ◌∷◌, refl, sym, ◌∙◌, ap, subst, eqb}
use Rattle.std.specs.Prelude.{flat_map, filter}
use Rattle.std.specs.Bool.{Decides}
use Rattle.std.proofs.lemmas.Bool.Decides.{Decides-eqb}
use Rattle.std.specs.Ordering.{nat_cmp}
use Rattle.ltl_spec.specs.Collections.Sets.{Has, IsRising}
use Rattle.ltl_spec.specs.Collections.Lists.{HasNoRepeats}
use Rattle.ltl_spec.specs.Transitions.Pairs.{RowSet, Pair, join, empty_pair}
use Rattle.ltl_spec.proofs.Collections.SetLaws.{filter_cases, Has-filter}
use Rattle.ltl_spec.proofs.Collections.MemberLaws.{Has-flat_map, flat_map_cases}
use Rattle.ltl_spec.proofs.Collections.CaseLaws.{false_is_true}
use Rattle.ltl_spec.proofs.Collections.Orders.{nat_linear}
use Rattle.ltl_spec.proofs.Collections.ProductLists.{HasNoRepeats-append, rising_once}
use Rattle.ltl_spec.proofs.Transitions.UnimpliedLaws.{not_from, not_cases}
use Rattle.ltl_spec.proofs.Transitions.SameJoins.{AreAlike, alike_refl, alike_sym, alike_trans, AreSound, join_alike, join_nothing}
use Rattle.ltl_spec.proofs.Transitions.ConjunctJoins.{join_of, join_split}

-- a filter keeps that nothing stands twice
pub HasNoRepeats-filter : {K : Type 0} (p : K → Bool) (xs : List K) → HasNoRepeats xs → HasNoRepeats (filter p xs)
HasNoRepeats-filter p [] r = tt
HasNoRepeats-filter p (x ∷ xs) r =
    let rest = HasNoRepeats-filter p xs r.1 in
    elim (p x) as (λ b. HasNoRepeats (cond b (x ∷ filter p xs) (filter p xs))) [
      | true ↦ ((λ h. r.0 (filter_cases p xs x h).0), rest)
      | false ↦ rest
    ]

-- so does a chain of lists that share nothing
pub HasNoRepeats-flat_map : {X Y : Type 0} (f : X → List Y) (xs : List X) → HasNoRepeats xs → ((x : X) → Has xs x → HasNoRepeats (f x))
    → ((x z : X) (y : Y) → Has xs x → Has xs z → Has (f x) y → Has (f z) y → x ≡ z) → HasNoRepeats (flat_map f xs)
HasNoRepeats-flat_map f [] r once own = tt
HasNoRepeats-flat_map f (x ∷ xs) r once own =
    HasNoRepeats-append (f x) (flat_map f xs) (once x (inl refl)) (HasNoRepeats-flat_map f xs r.1 (λ z h. once z (inr h)) (λ w z y h k m n. own w z y (inr h) (inr k) m n))
    (λ y h k. let (z, m, n) = flat_map_cases f xs y k in r.0 (subst (Has xs) (sym (own x z y (inl refl) (inr m) h n)) m))

-- nothing passes a filter where nothing should
filter_none : (p : ℕ → Bool) (xs : List ℕ) → ((x : ℕ) → Has xs x → p x ≡ true → ⊥) → filter p xs ≡ []
filter_none p [] f = refl
filter_none p (x ∷ xs) f =
    elim (p x) as (λ b. p x ≡ b → cond b (x ∷ filter p xs) (filter p xs) ≡ []) [
      | true ↦ λ e. absurd (f x (inl refl) e)
      | false ↦ λ e. filter_none p xs (λ y h. f y (inr h))
    ] refl

-- of a list without repetition one element equals one
filter_one : (i : ℕ) (xs : List ℕ) → HasNoRepeats xs → Has xs i → filter (eqb i) xs ≡ i ∷ []
filter_one i [] r h = absurd h
filter_one i (x ∷ xs) r h =
    elim (eqb i x) as (λ b. Decides b (i ≡ x) → cond b (x ∷ filter (eqb i) xs) (filter (eqb i) xs) ≡ i ∷ []) [
      | true ↦ λ d.
          let e = d.0 refl in
          let n = filter_none (eqb i) xs (λ y k t. r.0 (subst (Has xs) (sym ((Decides-eqb i y).0 t) ∙ e) k)) in
          ap (λ ys. x ∷ ys) n ∙ ap (λ y. y ∷ []) (sym e)
      | false ↦ λ d. elim h [ inl e ↦ false_is_true (d.1 e) | inr k ↦ filter_one i xs r.1 k ]
    ] (Decides-eqb i x)

module _ (conjunct : ℕ → List Pair) (sound : (i : ℕ) → AreSound (conjunct i)) where
  -- lists of the same numbers without repetition have the same joined conjuncts
  pub join_of_same : (d e : List ℕ) → HasNoRepeats d → HasNoRepeats e → ((i : ℕ) → Has d i → Has e i) → ((i : ℕ) → Has e i → Has d i) → AreAlike (join_of conjunct d) (join_of conjunct e)
  join_of_same [] [] r s f g = alike_refl (empty_pair ∷ [])
  join_of_same [] (x ∷ e) r s f g = absurd (g x (inl refl))
  join_of_same (i ∷ d) e r s f g =
      let rest = filter (λ k. not (eqb i k)) e in
      let split = join_split conjunct sound (eqb i) e in
      let one = subst (λ x. AreAlike (join_of conjunct e) (join (join_of conjunct x) (join_of conjunct rest))) (filter_one i e s (f i (inl refl))) split in
      let same = join_of_same d rest r.1 (HasNoRepeats-filter (λ k. not (eqb i k)) e s)
      (λ k h. Has-filter (λ x. not (eqb i x)) e k (f k (inr h)) (not_from (eqb i k) (λ t. r.0 (subst (Has d) (sym ((Decides-eqb i k).0 t)) h))))
      (λ k h. let c = filter_cases (λ x. not (eqb i x)) e k h in
      elim (g k c.0) [ inl q ↦ absurd (not_cases (eqb i k) c.1 ((Decides-eqb i k).1 (sym q))) | inr m ↦ m ]) in
      alike_sym (join_of conjunct e) (join (conjunct i) (join_of conjunct d))
      (alike_trans (join_of conjunct e) (join (join (conjunct i) (empty_pair ∷ [])) (join_of conjunct rest)) (join (conjunct i) (join_of conjunct d)) one
      (join_alike (join (conjunct i) (empty_pair ∷ [])) (conjunct i) (join_of conjunct rest) (join_of conjunct d) (join_nothing (conjunct i) (sound i)) (alike_sym (join_of conjunct d) (join_of conjunct rest) same)))

-- `numbers` gives the numbers of the conjuncts of a row, no two rows share one, and `all` are those of all rows of the set
pub record AreConjunctsOf (numbers : ℕ → List ℕ) (e all : RowSet) : Type 0 where
  pub rows : IsRising nat_cmp e
  pub rising : IsRising nat_cmp all
  pub once : (i : ℕ) → Has e i → HasNoRepeats (numbers i)
  pub own : (i j n : ℕ) → Has e i → Has e j → Has (numbers i) n → Has (numbers j) n → i ≡ j
  pub there : (i n : ℕ) → Has e i → Has (numbers i) n → Has all n
  pub back : (n : ℕ) → Has all n → (i : ℕ) × Has e i × Has (numbers i) n

module _ (conjunct : ℕ → List Pair) (sound : (i : ℕ) → AreSound (conjunct i)) (numbers : ℕ → List ℕ) (e all : RowSet) (conjuncts : AreConjunctsOf numbers e all) where
  -- the conjuncts one row after another, and in order
  pub conjuncts_in_order : AreAlike (join_of conjunct (flat_map numbers e)) (join_of conjunct all)
  conjuncts_in_order =
      join_of_same conjunct sound (flat_map numbers e) all (HasNoRepeats-flat_map numbers e (rising_once nat_linear e conjuncts.rows) conjuncts.once (λ i j n h k l m. conjuncts.own i j n h k l m))
      (rising_once nat_linear all conjuncts.rising)
      (λ n h. let (i, k, m) = flat_map_cases numbers e n h in conjuncts.there i n k m)
      (λ n h. let (i, k, m) = conjuncts.back n h in Has-flat_map numbers e i n k m)
