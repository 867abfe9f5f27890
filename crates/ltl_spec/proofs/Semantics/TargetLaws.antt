-- The targets of a formula's pairs are places of its parts, so an until row is no target of a pair of its second part.
use Rattle.std.proofs.Common.{◌≡◌, ℕ, ◌≤◌, true, inl, inr, List, [], ◌∷◌, ◌++◌, map, refl, sym, ap, subst, arith}
use Rattle.std.specs.Ordering.{nat_cmp}
use Rattle.ltl_spec.specs.Collections.Sets.{Has, union}
use Rattle.ltl_spec.specs.NormalForms.Normal.{Normal, Top, Bottom, Leaf, Next, And, Or, Until, Release, same}
use Rattle.ltl_spec.specs.NormalForms.NormalForm.{is_elementary, postorder, elementary_rows}
use Rattle.ltl_spec.specs.Transitions.Pairs.{RowSet, Pair, join, later_pair, conj, pairs}
use Rattle.ltl_spec.specs.Transitions.RowTransitions.{table_of, place}
use Rattle.ltl_spec.proofs.Collections.SetLaws.{append_cases, union_cases}
use Rattle.ltl_spec.proofs.Collections.ListLaws.{place_same}
use Rattle.ltl_spec.proofs.NormalForms.NormalLaws.{same_Decides}
use Rattle.ltl_spec.proofs.NormalForms.RowsCollected.{size, by_operands, postorder_cases, operand_smaller}
use Rattle.ltl_spec.proofs.Collections.Orders.{nat_linear}
use Rattle.ltl_spec.proofs.Collections.MemberLaws.{map_cases, flat_map_cases}
use Rattle.ltl_spec.proofs.Transitions.JoinLaws.{join_cases}
use Rattle.ltl_spec.proofs.Transitions.PartLaws.{AllParts, all_parts, part_parts, IsRow, elementary_has}

-- no part is greater than the formula
part_size : (F x : Normal) → Has (postorder F) x → size x ≤ size F
part_size = by_operands (λ F. (x : Normal) → Has (postorder F) x → size x ≤ size F) (λ F below x h.
    elim (postorder_cases F x h) [
      | inl e ↦ subst (λ y. size y ≤ size F) (sym e) (omega arith)
      | inr (a, m, k) ↦ let l = below a m x k in let less = operand_smaller F a m in omega arith
    ])

-- what holds of all parts holds of the formula
pub of_itself : (P : Normal → Type 0) (F : Normal) → AllParts P F → P F
of_itself P (Next a) w = w.1
of_itself P (And a b) w = w.2
of_itself P (Or a b) w = w.2
of_itself P (Until a b) w = w.2
of_itself P (Release a b) w = w.2
of_itself P _ w = w

-- each target is the place of an elementary part, and has what these have
module _ (place : Normal → ℕ) (Q : ℕ → Type 0) where
  -- the place of an elementary formula has the property
  abbrev Places : Normal → Type 0
  Places a = is_elementary a ≡ true → Q (place a)

  -- all targets have the property
  abbrev Targets : List Pair → Type 0
  Targets ps = (q : Pair) → Has ps q → (k : ℕ) → Has q.targets k → Q k

  -- a single place
  one_target : (a : Normal) → Q (place a) → (e : RowSet) → Has ((place a ∷ []) ∷ []) e → (k : ℕ) → Has e k → Q k
  one_target a w e (inl d) k h = elim (subst (λ x. Has x k) d h) [ inl i ↦ subst Q (sym i) w | inr z ↦ absurd z ]
  one_target a w e (inr z) k h = absurd z

  -- the sets of rows of a formula
  conj_targets : (F : Normal) → AllParts Places F → (e : RowSet) → Has (conj place F) e → (k : ℕ) → Has e k → Q k
  conj_targets Top w e (inl d) k h = absurd (subst (λ x. Has x k) d h)
  conj_targets Top w e (inr z) k h = absurd z
  conj_targets Bottom w e h k m = absurd h
  conj_targets (Leaf l) w e h k m = one_target (Leaf l) (w refl) e h k m
  conj_targets (Next a) w e h k m = one_target (Next a) (w.1 refl) e h k m
  conj_targets (Until a b) w e h k m = one_target (Until a b) (w.2 refl) e h k m
  conj_targets (Release a b) w e h k m = one_target (Release a b) (w.2 refl) e h k m
  conj_targets (Or a b) w e h k m = elim (append_cases (conj place a) (conj place b) e h) [ inl n ↦ conj_targets a w.0 e n k m | inr n ↦ conj_targets b w.1 e n k m ]
  conj_targets (And a b) w e h k m =
      let (d, n, x) = flat_map_cases (λ d'. map (union nat_cmp d') (conj place b)) (conj place a) e h in
      let (c, n', q) = map_cases (union nat_cmp d) (conj place b) e x in
      elim (union_cases nat_linear d c k (subst (λ y. Has y k) q m)) [ inl g ↦ conj_targets a w.0 d n k g | inr g ↦ conj_targets b w.1 c n' k g ]

  -- joins and lists in a row
  join_targets : (ps qs : List Pair) → Targets ps → Targets qs → Targets (join ps qs)
  join_targets ps qs f g r h k m =
      let (p, q, n, n', e) = join_cases ps qs r h in
      elim (union_cases nat_linear p.targets q.targets k (subst (λ (y : Pair). Has y.targets k) e m)) [ inl x ↦ f p n k x | inr x ↦ g q n' k x ]

  append_targets : (ps qs : List Pair) → Targets ps → Targets qs → Targets (ps ++ qs)
  append_targets ps qs f g r h k m = elim (append_cases ps qs r h) [ inl n ↦ f r n k m | inr n ↦ g r n k m ]

  -- the row itself, later
  later_targets : (a : Normal) → Q (place a) → Targets (later_pair (place a) ∷ [])
  later_targets a w r (inl e) k m = elim (subst (λ (y : Pair). Has y.targets k) e m) [ inl i ↦ subst Q (sym i) w | inr z ↦ absurd z ]
  later_targets a w r (inr z) k m = absurd z

  -- the pairs of a formula
  pub pair_targets : (F : Normal) → AllParts Places F → (q : Pair) → Has (pairs place F) q → (k : ℕ) → Has q.targets k → Q k
  pair_targets Top w q (inl e) k m = absurd (subst (λ (y : Pair). Has y.targets k) e m)
  pair_targets Top w q (inr z) k m = absurd z
  pair_targets Bottom w q h k m = absurd h
  pair_targets (Leaf l) w q (inl e) k m = absurd (subst (λ (y : Pair). Has y.targets k) e m)
  pair_targets (Leaf l) w q (inr z) k m = absurd z
  pair_targets (Next a) w q h k m =
      let (e, n, d) = map_cases (λ x. record { cube = []; targets = x }) (conj place a) q h in
      conj_targets a w.0 e n k (subst (λ (y : Pair). Has y.targets k) d m)
  pair_targets (And a b) w q h k m = join_targets (pairs place a) (pairs place b) (pair_targets a w.0) (pair_targets b w.1) q h k m
  pair_targets (Or a b) w q h k m = append_targets (pairs place a) (pairs place b) (pair_targets a w.0) (pair_targets b w.1) q h k m
  pair_targets (Until a b) w q h k m =
      append_targets (pairs place b) (join (pairs place a) (later_pair (place (Until a b)) ∷ [])) (pair_targets b w.1)
      (join_targets (pairs place a) (later_pair (place (Until a b)) ∷ []) (pair_targets a w.0) (later_targets (Until a b) (w.2 refl))) q h k m
  pair_targets (Release a b) w q h k m =
      join_targets (pairs place b) (pairs place a ++ later_pair (place (Release a b)) ∷ []) (pair_targets b w.1)
      (append_targets (pairs place a) (later_pair (place (Release a b)) ∷ []) (pair_targets a w.0) (later_targets (Release a b) (w.2 refl))) q h k m

-- an until row is no target of a pair of its second part
pub second_not_later : (core a b : Normal) → AllParts (IsRow core) (Until a b) → (q : Pair) → Has (pairs (place (table_of core)) b) q → ¬ (Has q.targets (place (table_of core) (Until a b)))
second_not_later core a b w q h m = pair_targets (place (table_of core)) Other b (all_parts (λ x. is_elementary x ≡ true → Other (place (table_of core) x)) b other) q h (place (table_of core) (Until a b)) m refl
  where
    Other : ℕ → Type 0
    Other k = ¬ (k ≡ place (table_of core) (Until a b))

    other : (x : Normal) → Has (postorder b) x → is_elementary x ≡ true → Other (place (table_of core) x)
    other x k e d =
        let same_row : x ≡ Until a b = place_same same same_Decides x (Until a b) (elementary_rows core)
        (elementary_has core x (of_itself (IsRow core) x (part_parts (IsRow core) b x w.1 k)) e)
        (elementary_has core (Until a b) w.2 refl) d in
        let l = part_size b x k in
        let g : size x ≡ size (Until a b) = ap size same_row in
        let less = operand_smaller (Until a b) b (inr (inl refl)) in
        omega arith
