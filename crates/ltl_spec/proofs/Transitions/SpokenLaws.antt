-- The test of a formula looks for everything that the pairs of the formula need.
use Rattle.std.proofs.Common.{ℕ, inl, inr, List, [], ◌∷◌, ◌++◌, map, sym, subst}
use Rattle.std.specs.Ordering.{nat_cmp}
use Rattle.ltl_spec.specs.Collections.Sets.{Has, union}
use Rattle.ltl_spec.specs.Transitions.Cubes.{Literal}
use Rattle.ltl_spec.specs.NormalForms.Normal.{Normal, Top, Bottom, Leaf, Next, And, Or, Until, Release}
use Rattle.ltl_spec.specs.NormalForms.NormalForm.{until_rows}
use Rattle.ltl_spec.specs.Transitions.Pairs.{RowSet, Pair, join, later_pair, conj, pairs}
use Rattle.ltl_spec.specs.Transitions.RowTransitions.{table_of, place}
use Rattle.ltl_spec.specs.Transitions.Pruning.{fulfilling_pairs}
use Rattle.ltl_spec.proofs.Collections.SetLaws.{append_cases, append_left, append_right, union_cases}
use Rattle.ltl_spec.proofs.Collections.MemberLaws.{map_cases, flat_map_cases}
use Rattle.ltl_spec.proofs.Collections.Orders.{nat_linear}
use Rattle.ltl_spec.proofs.Transitions.IndependentPairs.{Asks, Leads as LeadTo, asks_join, leads_join, asks_nothing, leads_nothing}
use Rattle.ltl_spec.proofs.Transitions.Fulfilment.{Test, Leads, Both, Either, literals_of, targets_of, set_test, pair_test, until_test}
use Rattle.ltl_spec.proofs.Transitions.FulfilmentLaws.{until_row_parts, fulfilling_second}

-- the test speaks of all that the pairs of the list ask for
pub record Speaks (a : Test) (ps : List Pair) : Type 0 where
  pub literals : (l : Literal) → Asks ps l → Has (literals_of a) l
  pub rows : (k : ℕ) → LeadTo ps k → Has (targets_of a) k

-- no pair at all, and one that asks for nothing but one row next
speaks_none : (a : Test) → Speaks a []
speaks_none a = record { literals = λ l (p, h, k). absurd h; rows = λ i (p, h, k). absurd h }

speaks_later : (i : ℕ) → Speaks (Leads i) (later_pair i ∷ [])
speaks_later i = record { literals = literals; rows = rows }
  where
    literals : (l : Literal) → Asks (later_pair i ∷ []) l → Has (literals_of (Leads i)) l
    literals l (p, inl e, k) = subst (λ (x : Pair). Has x.cube l) e k
    literals l (p, inr z, k) = absurd z

    rows : (k : ℕ) → LeadTo (later_pair i ∷ []) k → Has (targets_of (Leads i)) k
    rows k (p, inl e, h) = subst (λ (x : Pair). Has x.targets k) e h
    rows k (p, inr z, h) = absurd z

-- joins and lists in a row
speaks_join : (a b : Test) (ps qs : List Pair) → Speaks a ps → Speaks b qs → Speaks (Both a b) (join ps qs)
speaks_join a b ps qs v w = record {
  literals = λ l h. elim (asks_join ps qs l h) [
    | inl k ↦ append_left (literals_of a) (literals_of b) l (v.literals l k)
    | inr k ↦ append_right (literals_of a) (literals_of b) l (w.literals l k)
  ];
  rows = λ i h. elim (leads_join ps qs i h) [
    | inl k ↦ append_left (targets_of a) (targets_of b) i (v.rows i k)
    | inr k ↦ append_right (targets_of a) (targets_of b) i (w.rows i k)
  ];
}

speaks_append : (a b : Test) (ps qs : List Pair) → Speaks a ps → Speaks b qs → Speaks (Either a b) (ps ++ qs)
speaks_append a b ps qs v w = record {
  literals = λ l (p, h, k). elim (append_cases ps qs p h) [
    | inl m ↦ append_left (literals_of a) (literals_of b) l (v.literals l (p, m, k))
    | inr m ↦ append_right (literals_of a) (literals_of b) l (w.literals l (p, m, k))
  ];
  rows = λ i (p, h, k). elim (append_cases ps qs p h) [
    | inl m ↦ append_left (targets_of a) (targets_of b) i (v.rows i (p, m, k))
    | inr m ↦ append_right (targets_of a) (targets_of b) i (w.rows i (p, m, k))
  ];
}

module _ (place : Normal → ℕ) where
  single_spoken : (i : ℕ) (e : RowSet) → Has ((i ∷ []) ∷ []) e → (k : ℕ) → Has e k → Has (i ∷ []) k
  single_spoken i e (inl d) k m = subst (λ x. Has x k) d m
  single_spoken i e (inr z) k m = absurd z

  -- the rows of the sets of a formula
  sets_spoken : (n : Normal) (e : RowSet) → Has (conj place n) e → (k : ℕ) → Has e k → Has (targets_of (set_test place n)) k
  sets_spoken Top e (inl d) k m = subst (λ x. Has x k) d m
  sets_spoken Top e (inr z) k m = absurd z
  sets_spoken Bottom e h k m = absurd h
  sets_spoken (Leaf l) e h k m = single_spoken (place (Leaf l)) e h k m
  sets_spoken (Next a) e h k m = single_spoken (place (Next a)) e h k m
  sets_spoken (Until a b) e h k m = single_spoken (place (Until a b)) e h k m
  sets_spoken (Release a b) e h k m = single_spoken (place (Release a b)) e h k m
  sets_spoken (Or a b) e h k m = elim (append_cases (conj place a) (conj place b) e h) [
    | inl n ↦ append_left (targets_of (set_test place a)) (targets_of (set_test place b)) k (sets_spoken a e n k m)
    | inr n ↦ append_right (targets_of (set_test place a)) (targets_of (set_test place b)) k (sets_spoken b e n k m)
  ]
  sets_spoken (And a b) e h k m =
      let (d, n, x) = flat_map_cases (λ y. map (union nat_cmp y) (conj place b)) (conj place a) e h in
      let (c, i, q) = map_cases (union nat_cmp d) (conj place b) e x in
      elim (union_cases nat_linear d c k (subst (λ y. Has y k) q m)) [
        | inl g ↦ append_left (targets_of (set_test place a)) (targets_of (set_test place b)) k (sets_spoken a d n k g)
        | inr g ↦ append_right (targets_of (set_test place a)) (targets_of (set_test place b)) k (sets_spoken b c i k g)
      ]

  -- all that the pairs of a formula ask for
  pub pairs_spoken : (n : Normal) → Speaks (pair_test place n) (pairs place n)
  pairs_spoken Top = record { literals = asks_nothing; rows = leads_nothing }
  pairs_spoken Bottom = speaks_none (pair_test place Bottom)
  pairs_spoken (Leaf l) = record { literals = literals; rows = rows }
    where
      literals : (m : Literal) → Asks (pairs place (Leaf l)) m → Has (l ∷ []) m
      literals m (p, inl e, k) = subst (λ (x : Pair). Has x.cube m) e k
      literals m (p, inr z, k) = absurd z

      rows : (k : ℕ) → LeadTo (pairs place (Leaf l)) k → ⊥
      rows k (p, inl e, h) = subst (λ (x : Pair). Has x.targets k) e h
      rows k (p, inr z, h) = z
  pairs_spoken (And a b) = speaks_join (pair_test place a) (pair_test place b) (pairs place a) (pairs place b) (pairs_spoken a) (pairs_spoken b)
  pairs_spoken (Or a b) = speaks_append (pair_test place a) (pair_test place b) (pairs place a) (pairs place b) (pairs_spoken a) (pairs_spoken b)
  pairs_spoken (Next a) = record { literals = literals; rows = rows }
    where
      literals : (l : Literal) → Asks (pairs place (Next a)) l → Has (literals_of (set_test place a)) l
      literals l (p, h, k) = let (e, m, d) = map_cases (λ x. record { cube = []; targets = x }) (conj place a) p h in absurd (subst (λ (x : Pair). Has x.cube l) d k)

      rows : (i : ℕ) → LeadTo (pairs place (Next a)) i → Has (targets_of (set_test place a)) i
      rows i (p, h, k) = let (e, m, d) = map_cases (λ x. record { cube = []; targets = x }) (conj place a) p h in sets_spoken a e m i (subst (λ (x : Pair). Has x.targets i) d k)
  pairs_spoken (Until a b) =
      let later = place (Until a b) in
      speaks_append (pair_test place b) (Both (pair_test place a) (Leads later)) (pairs place b) (join (pairs place a) (later_pair later ∷ [])) (pairs_spoken b)
      (speaks_join (pair_test place a) (Leads later) (pairs place a) (later_pair later ∷ []) (pairs_spoken a) (speaks_later later))
  pairs_spoken (Release a b) =
      let later = place (Release a b) in
      speaks_join (pair_test place b) (Either (pair_test place a) (Leads later)) (pairs place b) (pairs place a ++ later_pair later ∷ []) (pairs_spoken b)
      (speaks_append (pair_test place a) (Leads later) (pairs place a) (later_pair later ∷ []) (pairs_spoken a) (speaks_later later))

-- all that the pairs ask for which fulfil an until row without putting it off
pub fulfilling_spoken : (core f : Normal) → Has (until_rows core) f → Speaks (until_test (place (table_of core)) f) (fulfilling_pairs (table_of core) f)
fulfilling_spoken core f h =
    let (a, b, e, w) = until_row_parts core f h in
    subst (λ g. Speaks (until_test (place (table_of core)) g) (fulfilling_pairs (table_of core) g)) (sym e) (record {
      literals = λ l (p, k, m). (pairs_spoken (place (table_of core)) b).literals l (p, fulfilling_second core a b p k, m);
      rows = λ i (p, k, m). (pairs_spoken (place (table_of core)) b).rows i (p, fulfilling_second core a b p k, m);
    })
