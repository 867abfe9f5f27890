-- The marks of united pairs of lists that are independent: those of both.
use Rattle.std.proofs.Common.{◌≡◌, ℕ, ◌+◌, ◌-◌, ◌<◌, Bool, true, false, inl, inr, List, refl, sym, ◌∙◌, subst, length, arith}
use Rattle.std.specs.Prelude.{slice_index_or}
use Rattle.std.specs.List.{filter}
use Rattle.std.specs.declared.cmp.Ordering.{Ordering}
use Rattle.std.specs.Ordering.{nat_cmp}
use Rattle.ltl_spec.specs.Collections.Sets.{Has, has, union, IsLinearOrder}
use Rattle.ltl_spec.specs.Transitions.Cubes.{literal_cmp}
use Rattle.ltl_spec.specs.NormalForms.Normal.{Normal, Bottom}
use Rattle.ltl_spec.specs.Transitions.Pairs.{Pair}
use Rattle.ltl_spec.specs.Transitions.RowTransitions.{Table, place, is_marked, with_marks, Transition}
use Rattle.ltl_spec.proofs.Collections.SetLaws.{has_Decides, union_cases, same_members, filter_cases, Has-filter, IsRising-filter}
use Rattle.ltl_spec.proofs.Collections.ListLaws.{Has-at, places_cases, Has-places, IsRising-places}
use Rattle.ltl_spec.proofs.Collections.Orders.{nat_linear, literal_linear}
use Rattle.ltl_spec.proofs.Collections.CaseLaws.{false_is_true}
use Rattle.ltl_spec.proofs.Transitions.JoinLaws.{Within, within_trans, united, within_left, within_right}
use Rattle.ltl_spec.specs.Transitions.Pruning.{IsEnough, fulfilling_pairs}
use Rattle.ltl_spec.proofs.Transitions.LeastPairs.{enough_below, Marked, marked_cases, marked_from}
use Rattle.ltl_spec.proofs.Transitions.IndependentPairs.{AreIndependent}

-- the members of two sets that are in both
abbrev pub common : {K : Type 0} → (K → K → Ordering) → List K → List K → List K
common cmp xs ys = filter (λ x. has cmp x ys) xs

module _ {K : Type 0} {cmp : K → K → Ordering} (o : IsLinearOrder cmp) where
  pub common_cases : (xs ys : List K) (z : K) → Has (common cmp xs ys) z → Has xs z × Has ys z
  common_cases xs ys z h = let c = filter_cases (λ x. has cmp x ys) xs z h in (c.0, (has_Decides o z ys).0 c.1)

  pub Has-common : (xs ys : List K) (z : K) → Has xs z → Has ys z → Has (common cmp xs ys) z
  Has-common xs ys z h k = Has-filter (λ x. has cmp x ys) xs z h ((has_Decides o z ys).1 k)

-- two transitions at once
abbrev pub at_once : Transition → Transition → Transition
at_once a b = record { cube = union literal_cmp a.cube b.cube; targets = union nat_cmp a.targets b.targets; marks = common nat_cmp a.marks b.marks }

-- the marks of a pair

module _ (table : Table) where
  -- the until row of that number
  abbrev pub until_at : ℕ → Normal
  until_at k = slice_index_or table.untils k Bottom

  -- a number among the marks is that of an until row that the pair doesn't put off
  pub marks_cases : (p : Pair) (k : ℕ) → Has (with_marks table p).marks k → (k < length table.untils) × (is_marked table p (until_at k) ≡ true)
  marks_cases p k h =
      let c = places_cases (is_marked table p) 0 table.untils Bottom k h in
      let l = c.1 in
      let e : k - 0 ≡ k = omega arith in
      (omega arith, subst (λ n. is_marked table p (until_at n) ≡ true) e c.2)

  pub Has-marks : (p : Pair) (k : ℕ) → k < length table.untils → is_marked table p (until_at k) ≡ true → Has (with_marks table p).marks k
  Has-marks p k l e =
      let d : 0 + k ≡ k = omega arith in
      subst (Has (with_marks table p).marks) d (Has-places (is_marked table p) 0 table.untils Bottom k l e)

  module _ (chosen : Normal → List Pair) (enough : (f : Normal) → Has table.untils f → IsEnough (fulfilling_pairs table f) (chosen f)) where
    module _ (ps qs : List Pair) (independent : AreIndependent table chosen ps qs) (p q : Pair) (h : Has ps p) (k : Has qs q) where
      -- what is within both and speaks of nothing of q is within p
      within_left_alone : (f : Normal) → Has table.untils f → Has p.targets (place table f) → (m : Pair) → Has (chosen f) m → Within m (united p q) → Within m p
      within_left_alone f i n m j w = record {
        cube = λ l x. elim (union_cases literal_linear p.cube q.cube l (w.cube l x)) [ inl y ↦ y | inr y ↦ absurd (independent.left.literals f i (p, h, n) l (m, j, x) (q, k, y)) ];
        targets = λ l x. elim (union_cases nat_linear p.targets q.targets l (w.targets l x)) [ inl y ↦ y | inr y ↦ absurd (independent.left.rows f i (p, h, n) l (m, j, x) (q, k, y)) ];
      }

      -- and the other way round
      within_right_alone : (f : Normal) → Has table.untils f → Has q.targets (place table f) → (m : Pair) → Has (chosen f) m → Within m (united p q) → Within m q
      within_right_alone f i n m j w = record {
        cube = λ l x. elim (union_cases literal_linear p.cube q.cube l (w.cube l x)) [ inl y ↦ absurd (independent.right.literals f i (q, k, n) l (m, j, x) (p, h, y)) | inr y ↦ y ];
        targets = λ l x. elim (union_cases nat_linear p.targets q.targets l (w.targets l x)) [ inl y ↦ absurd (independent.right.rows f i (q, k, n) l (m, j, x) (p, h, y)) | inr y ↦ y ];
      }

      -- an until row that both together don't put off, neither puts off
      pub marked_left : (f : Normal) → Has table.untils f → is_marked table (united p q) f ≡ true → is_marked table p f ≡ true
      marked_left f i e = marked_from table p f (elim (marked_cases table (united p q) f e) [
        | inl n ↦ inl (λ x. n ((within_left p q).targets (place table f) x))
        | inr c ↦ one c
      ])
        where
          one : (m : Pair) × Has (fulfilling_pairs table f) m × Within m (united p q) → Marked table p f
          one (m, j, w) = at (has nat_cmp (place table f) p.targets) refl
            where
              at : (b : Bool) → has nat_cmp (place table f) p.targets ≡ b → Marked table p f
              at false d = inl (λ x. false_is_true (sym d ∙ (has_Decides nat_linear (place table f) p.targets).1 x))
              at true d =
                  let (n, l, v) = enough_below (enough f i) m j in
                  inr (n, (enough f i).from n l, within_left_alone f i ((has_Decides nat_linear (place table f) p.targets).0 d) n l (within_trans n m (united p q) v w))

      pub marked_right : (f : Normal) → Has table.untils f → is_marked table (united p q) f ≡ true → is_marked table q f ≡ true
      marked_right f i e = marked_from table q f (elim (marked_cases table (united p q) f e) [
        | inl n ↦ inl (λ x. n ((within_right p q).targets (place table f) x))
        | inr c ↦ one c
      ])
        where
          one : (m : Pair) × Has (fulfilling_pairs table f) m × Within m (united p q) → Marked table q f
          one (m, j, w) = at (has nat_cmp (place table f) q.targets) refl
            where
              at : (b : Bool) → has nat_cmp (place table f) q.targets ≡ b → Marked table q f
              at false d = inl (λ x. false_is_true (sym d ∙ (has_Decides nat_linear (place table f) q.targets).1 x))
              at true d =
                  let (n, l, v) = enough_below (enough f i) m j in
                  inr (n, (enough f i).from n l, within_right_alone f i ((has_Decides nat_linear (place table f) q.targets).0 d) n l (within_trans n m (united p q) v w))

      -- one that neither puts off, both together don't put off
      pub marked_both : (f : Normal) → is_marked table p f ≡ true → is_marked table q f ≡ true → is_marked table (united p q) f ≡ true
      marked_both f d e = marked_from table (united p q) f (both (marked_cases table p f d) (marked_cases table q f e))
        where
          both : Marked table p f → Marked table q f → Marked table (united p q) f
          both (inr (m, j, w)) c = inr (m, j, within_trans m p (united p q) w (within_left p q))
          both (inl n) (inr (m, j, w)) = inr (m, j, within_trans m q (united p q) w (within_right p q))
          both (inl n) (inl o) = inl (λ x. elim (union_cases nat_linear p.targets q.targets (place table f) x) [ inl y ↦ n y | inr y ↦ o y ])

      -- so the marks of both together are those that both have
      pub united_marks : (with_marks table (united p q)).marks ≡ common nat_cmp (with_marks table p).marks (with_marks table q).marks
      united_marks =
          same_members nat_linear (with_marks table (united p q)).marks (common nat_cmp (with_marks table p).marks (with_marks table q).marks)
          (IsRising-places (is_marked table (united p q)) 0 table.untils)
          (IsRising-filter nat_cmp (λ x. has nat_cmp x (with_marks table q).marks) (with_marks table p).marks (IsRising-places (is_marked table p) 0 table.untils))
          (λ i m.
          let (l, e) = marks_cases (united p q) i m in
          let f = Has-at table.untils i Bottom l in
          Has-common nat_linear (with_marks table p).marks (with_marks table q).marks i (Has-marks p i l (marked_left (until_at i) f e)) (Has-marks q i l (marked_right (until_at i) f e)))
          (λ i m.
          let (c, d) = common_cases nat_linear (with_marks table p).marks (with_marks table q).marks i m in
          let (l, e) = marks_cases p i c in
          Has-marks (united p q) i l (marked_both (until_at i) e (marks_cases q i d).1))

      -- and the transition of both together is that of each at once
      pub united_transition : with_marks table (united p q) ≡ at_once (with_marks table p) (with_marks table q)
      united_transition = let e = united_marks in λ i. record { cube = union literal_cmp p.cube q.cube; targets = union nat_cmp p.targets q.targets; marks = e i }
