-- What a sequence of pairs supports holds, if the targets of each pair are supported next and no until row is postponed forever.
use Rattle.std.proofs.Common.{◌≡◌, ℕ, zero, suc, ◌+◌, Bool, true, false, not, ◌&&◌, ◌||◌, inl, inr, [], ◌∷◌, ◌++◌, map, refl, sym, subst, arith}
use Rattle.std.specs.List.{list_any}
use Rattle.std.specs.Ordering.{nat_cmp}
use Rattle.ltl_spec.specs.Collections.Sets.{Has, has, is_subset, union}
use Rattle.ltl_spec.specs.Transitions.Cubes.{Literal, literal_cmp}
use Rattle.ltl_spec.specs.Semantics.Word.{after_steps}
use Rattle.ltl_spec.specs.NormalForms.Normal.{Normal, Top, Bottom, Leaf, Next, And, Or, Until, Release}
use Rattle.ltl_spec.specs.NormalForms.NormalForm.{is_elementary}
use Rattle.ltl_spec.specs.Semantics.NormalSatisfaction.{Holds}
use Rattle.ltl_spec.specs.Transitions.Pairs.{RowSet, Pair, join, later_pair, conj, pairs}
use Rattle.ltl_spec.specs.Transitions.RowTransitions.{Table, table_of, place, pairs_at, fulfils, is_marked}
use Rattle.ltl_spec.specs.Semantics.Satisfaction.{HoldsUntil}
use Rattle.ltl_spec.proofs.Collections.SetLaws.{append_cases, union_left, union_right, has_Decides, is_subset_Decides}
use Rattle.ltl_spec.proofs.Collections.Orders.{nat_linear, literal_linear}
use Rattle.ltl_spec.proofs.Collections.MemberLaws.{any_cases, flat_map_cases, map_cases}
use Rattle.ltl_spec.proofs.Transitions.CubeLaws.{Agrees}
use Rattle.ltl_spec.proofs.Transitions.JoinLaws.{Within, within_refl, SomeWithin, join_within, append_within, later_within}
use Rattle.ltl_spec.proofs.Transitions.PartLaws.{AllParts, IsRow, elementary_has, core_has, row_at_place, all_rows}
use Rattle.ltl_spec.proofs.Collections.CaseLaws.{false_is_true, left_true, right_true}
use Rattle.ltl_spec.proofs.Semantics.UntilLaws.{until_now, until_later, ReleaseFor, release_later}
use Rattle.ltl_spec.proofs.Semantics.StepLaws.{after_last}

-- a pair that fulfils an until row is one of its second part
pub fulfilled : (t : Table) (a b : Normal) (p q : Pair) → Has (pairs (place t) (Until a b)) q → fulfils t (Until a b) p q ≡ true → Has (pairs (place t) b) q × Within q p
fulfilled t a b p q h e = (second, within)
  where
    first_two : (is_subset literal_cmp q.cube p.cube && not (has nat_cmp (place t (Until a b)) q.targets)) ≡ true
    first_two = left_true _ (is_subset nat_cmp q.targets p.targets) e

    not_later : ¬ (Has q.targets (place t (Until a b)))
    not_later m = refuse (has nat_cmp (place t (Until a b)) q.targets) ((has_Decides nat_linear (place t (Until a b)) q.targets).1 m) (right_true (is_subset literal_cmp q.cube p.cube) _ first_two)
      where
        refuse : (s : Bool) → s ≡ true → not s ≡ true → ⊥
        refuse true d n = false_is_true n
        refuse false d n = false_is_true d

    within : Within q p
    within = record {
      cube = (is_subset_Decides literal_linear q.cube p.cube).0 (left_true _ (not (has nat_cmp (place t (Until a b)) q.targets)) first_two);
      targets = (is_subset_Decides nat_linear q.targets p.targets).0 (right_true (is_subset literal_cmp q.cube p.cube && not (has nat_cmp (place t (Until a b)) q.targets)) _ e);
    }

    second : Has (pairs (place t) b) q
    second = elim (append_cases (pairs (place t) b) (join (pairs (place t) a) (later_pair (place t (Until a b)) ∷ [])) q h) [
      | inl k ↦ k
      | inr k ↦ absurd (not_later (later_within (place t (Until a b)) q (join_within (pairs (place t) a) (later_pair (place t (Until a b)) ∷ []) q (q, k, within_refl q)).1))
    ]

-- a marked pair that has the until row as a target supports its second part
pub marked_supports : (t : Table) (a b : Normal) (p : Pair) → is_marked t p (Until a b) ≡ true → Has p.targets (place t (Until a b)) → SomeWithin (pairs (place t) b) p
marked_supports t a b p e h =
    let some : list_any (fulfils t (Until a b) p) (pairs (place t) (Until a b)) ≡ true =
    second (has nat_cmp (place t (Until a b)) p.targets) (list_any (fulfils t (Until a b) p) (pairs (place t) (Until a b))) ((has_Decides nat_linear (place t (Until a b)) p.targets).1 h) e in
    let (q, m, g) = any_cases (fulfils t (Until a b) p) (pairs (place t) (Until a b)) some in
    let w = fulfilled t a b p q m g in
    (q, w.0, w.1)
  where
    second : (s r : Bool) → s ≡ true → (not s || r) ≡ true → r ≡ true
    second true r d g = g
    second false r d g = false_is_true d

module _ (core : Normal) (truth : ℕ → ℕ → Bool) (step : ℕ → ℕ) (pair : ℕ → Pair) where
  -- the table of the formula
  abbrev t : Table
  t = table_of core

  -- the position at each time
  abbrev at : ℕ → ℕ
  at k = after_steps step k 0

  -- the literals agree, the targets are supported next, and each until row is marked again and again
  pub record IsSupported : Type 0 where
    pub agrees : (k : ℕ) → Agrees (truth (after_steps step k 0)) (pair k).cube
    pub carries : (k i : ℕ) → Has (pair k).targets i → SomeWithin (pairs_at (table_of core) i) (pair (suc k))
    pub marked : (a b : Normal) → IsRow core (Until a b) → (k : ℕ) → (d : ℕ) × (is_marked (table_of core) (pair (k + d)) (Until a b) ≡ true)

  -- the formula holds wherever it is supported
  abbrev pub HoldsSupported : Normal → Type 0
  HoldsSupported F = (k : ℕ) → SomeWithin (pairs (place (table_of core)) F) (pair k) → Holds truth step F (after_steps step k 0)

  -- the formula holds wherever one of its sets of rows was asked for
  abbrev pub HoldsAsked : Normal → Type 0
  HoldsAsked F = (k : ℕ) (e : RowSet) → Has (conj (place (table_of core)) F) e → ((i : ℕ) → Has e i → Has (pair k).targets i) → Holds truth step F (after_steps step (suc k) 0)

  module _ (s : IsSupported) where
    -- an elementary row that is a target is supported next
    carried : (F : Normal) → IsRow core F → is_elementary F ≡ true → (k : ℕ) → Has (pair k).targets (place t F) → SomeWithin (pairs (place t) F) (pair (suc k))
    carried F r e k h = subst (λ x. SomeWithin (pairs (place t) x) (pair (suc k))) (row_at_place core F (elementary_has core F r e)) (s.carries k (place t F) h)

    -- for an elementary row it is enough that it holds where it is supported
    one_asked : (F : Normal) → IsRow core F → is_elementary F ≡ true → HoldsSupported F → (k : ℕ) (e : RowSet) → Has ((place t F ∷ []) ∷ []) e → ((i : ℕ) → Has e i → Has (pair k).targets i) → Holds truth step F (after_steps step (suc k) 0)
    one_asked F r x g k e (inl d) f = g (suc k) (carried F r x k (f (place t F) (subst (λ y. Has y (place t F)) (sym d) (inl refl))))
    one_asked F r x g k e (inr z) f = absurd z

    -- a release row: as many steps as are asked for
    release_holds : (a b : Normal) → IsRow core (Release a b) → HoldsSupported a → HoldsSupported b → (n k : ℕ) → SomeWithin (pairs (place t) (Release a b)) (pair k) → ReleaseFor step (Holds truth step a) (Holds truth step b) n (at k)
    release_holds a b r f g zero k h = inl (g k (join_within (pairs (place t) b) (pairs (place t) a ++ later_pair (place t (Release a b)) ∷ []) (pair k) h).0)
    release_holds a b r f g (suc n) k h =
        elim (append_within (pairs (place t) a) (later_pair (place t (Release a b)) ∷ []) (pair k) (join_within (pairs (place t) b) (pairs (place t) a ++ later_pair (place t (Release a b)) ∷ []) (pair k) h).1) [
          | inl m ↦ inr (0, omega arith, f k m)
          | inr m ↦ release_later step (Holds truth step a) (Holds truth step b) n (at k)
              (subst (ReleaseFor step (Holds truth step a) (Holds truth step b) n) (after_last step k 0)
              (release_holds a b r f g n (suc k) (carried (Release a b) r refl k (later_within (place t (Release a b)) (pair k) m))))
        ]

    -- an until row: as many steps as it takes to the next mark
    until_holds : (a b : Normal) → IsRow core (Until a b) → HoldsSupported a → HoldsSupported b → (d k : ℕ) → is_marked t (pair (k + d)) (Until a b) ≡ true → SomeWithin (pairs (place t) (Until a b)) (pair k) → HoldsUntil step (Holds truth step a) (Holds truth step b) (at k)
    until_holds a b r f g zero k e h =
        let here : k + 0 ≡ k = omega arith in
        elim (append_within (pairs (place t) b) (join (pairs (place t) a) (later_pair (place t (Until a b)) ∷ [])) (pair k) h) [
          | inl m ↦ until_now step (Holds truth step a) (Holds truth step b) (at k) (g k m)
          | inr m ↦
              let asked = later_within (place t (Until a b)) (pair k) (join_within (pairs (place t) a) (later_pair (place t (Until a b)) ∷ []) (pair k) m).1 in
              until_now step (Holds truth step a) (Holds truth step b) (at k) (g k (marked_supports t a b (pair k) (subst (λ j. is_marked t (pair j) (Until a b) ≡ true) here e) asked))
        ]
    until_holds a b r f g (suc d) k e h =
        let there : k + suc d ≡ suc k + d = omega arith in
        elim (append_within (pairs (place t) b) (join (pairs (place t) a) (later_pair (place t (Until a b)) ∷ [])) (pair k) h) [
          | inl m ↦ until_now step (Holds truth step a) (Holds truth step b) (at k) (g k m)
          | inr m ↦
              let both = join_within (pairs (place t) a) (later_pair (place t (Until a b)) ∷ []) (pair k) m in
              let next = until_holds a b r f g d (suc k) (subst (λ j. is_marked t (pair j) (Until a b) ≡ true) there e) (carried (Until a b) r refl k (later_within (place t (Until a b)) (pair k) both.1)) in
              until_later step (Holds truth step a) (Holds truth step b) (at k) (f k both.0)
              (subst (HoldsUntil step (Holds truth step a) (Holds truth step b)) (after_last step k 0) next)
        ]

    -- a literal holds where it is supported
    leaf_holds : (l : Literal) → HoldsSupported (Leaf l)
    leaf_holds l k (q, inl d, v) = s.agrees k l (v.cube l (subst (λ (y : Pair). Has y.cube l) (sym d) (inl refl)))
    leaf_holds l k (q, inr z, v) = absurd z

    -- `X a` holds by what was asked for
    next_holds : (a : Normal) → HoldsAsked a → HoldsSupported (Next a)
    next_holds a g k (q, m, v) =
        let (e, n, d) = map_cases (λ x. record { cube = []; targets = x }) (conj (place t) a) q m in
        subst (Holds truth step a) (after_last step k 0) (g k e n (λ i x. v.targets i (subst (λ (y : Pair). Has y.targets i) (sym d) x)))

    -- a union of two sets asks for both
    and_asked : (a b : Normal) → HoldsAsked a → HoldsAsked b → HoldsAsked (And a b)
    and_asked a b f g k e h u =
        let (d, n, m) = flat_map_cases (λ d'. map (union nat_cmp d') (conj (place t) b)) (conj (place t) a) e h in
        let (c, n', q) = map_cases (union nat_cmp d) (conj (place t) b) e m in
        let within : (i : ℕ) → Has (union nat_cmp d c) i → Has (pair k).targets i = λ i x. u i (subst (λ y. Has y i) (sym q) x) in
        (f k d n (λ i x. within i (union_left nat_linear d c i x)), g k c n' (λ i x. within i (union_right nat_linear d c i x)))

    -- both at once, by the structure of the formula
    pub supported_holds : (F : Normal) → AllParts (IsRow core) F → HoldsSupported F × HoldsAsked F
    supported_holds Top w = (λ k h. tt, λ k e h u. tt)
    supported_holds Bottom w = (λ k h. absurd h.1, λ k e h u. absurd h)
    supported_holds (Leaf l) w = (leaf_holds l, one_asked (Leaf l) w refl (leaf_holds l))
    supported_holds (Next a) w =
        let g = next_holds a (supported_holds a w.0).1 in
        (g, one_asked (Next a) w.1 refl g)
    supported_holds (And a b) w =
        let f = supported_holds a w.0 in
        let g = supported_holds b w.1 in (
          λ k h. (let m = join_within (pairs (place t) a) (pairs (place t) b) (pair k) h in (f.0 k m.0, g.0 k m.1)),
          and_asked a b f.1 g.1,
        )
    supported_holds (Or a b) w =
        let f = supported_holds a w.0 in
        let g = supported_holds b w.1 in (
          λ k h. elim (append_within (pairs (place t) a) (pairs (place t) b) (pair k) h) [ inl m ↦ inl (f.0 k m) | inr m ↦ inr (g.0 k m) ],
          λ k e h u. elim (append_cases (conj (place t) a) (conj (place t) b) e h) [ inl m ↦ inl (f.1 k e m u) | inr m ↦ inr (g.1 k e m u) ],
        )
    supported_holds (Until a b) w =
        let f = (supported_holds a w.0).0 in
        let g = (supported_holds b w.1).0 in
        let u : HoldsSupported (Until a b) = λ k h. (let m = s.marked a b w.2 k in until_holds a b w.2 f g m.0 k m.1 h) in
        (u, one_asked (Until a b) w.2 refl u)
    supported_holds (Release a b) w =
        let f = (supported_holds a w.0).0 in
        let g = (supported_holds b w.1).0 in
        let u : HoldsSupported (Release a b) = λ k h n. release_holds a b w.2 f g n k h in
        (u, one_asked (Release a b) w.2 refl u)

    -- the formula holds if its row is supported at first
    pub core_holds_supported : SomeWithin (pairs_at t (place t core)) (pair 0) → Holds truth step core 0
    core_holds_supported h = (supported_holds core (all_rows core)).0 0 (subst (λ x. SomeWithin (pairs (place t) x) (pair 0)) (row_at_place core core (core_has core)) h)
