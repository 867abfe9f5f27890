-- A program may drop pairs before a join is complete, if other pairs replace them.
use Rattle.std.proofs.Common.{◌≡◌, ◌+◌, ◌-◌, true, inl, inr, List, [], ◌∷◌, map, refl, sym, subst, arith}
use Rattle.std.specs.Prelude.{slice_index_or}
use Rattle.std.specs.declared.cmp.Ordering.TheVariants.{Less}
use Rattle.ltl_spec.specs.Collections.Sets.{Has, IsRising, set_of}
use Rattle.ltl_spec.specs.NormalForms.Normal.{Normal, Bottom}
use Rattle.ltl_spec.specs.Transitions.Pairs.{RowSet, Pair, pair_cmp, join, empty_pair}
use Rattle.ltl_spec.specs.Transitions.RowTransitions.{Table, is_marked, Transition, with_marks, transition_cmp}
use Rattle.ltl_spec.proofs.Collections.SetLaws.{all_at, all_from, set_of_cases, Has-set_of, IsRising-set_of}
use Rattle.ltl_spec.proofs.Collections.ListLaws.{Has-at, places_cases, Has-places}
use Rattle.ltl_spec.proofs.Collections.Orders.{pair_linear}
use Rattle.ltl_spec.proofs.Transitions.JoinLaws.{Within, within_refl, united, within_left, AllProper, IsConsistent, join_pair_is, united_least, join_parts}
use Rattle.ltl_spec.proofs.Transitions.TransitionLaws.{Implies, HasSets}
use Rattle.ltl_spec.proofs.Transitions.UnimpliedLaws.{unimplied_covered}
use Rattle.ltl_spec.proofs.Transitions.LeastPairs.{marked_alike}
use Rattle.ltl_spec.proofs.Transitions.SafeLaws.{consistent_within, safe_keeps}
use Rattle.ltl_spec.specs.Transitions.Pruning.{unimplied_of, is_counted, IsSafeToDrop}
use Rattle.ltl_spec.proofs.Collections.MemberLaws.{Has-map, map_cases}

-- no pair of the list contradicts itself
abbrev pub AllConsistent : List Pair → Type 0
AllConsistent ps = (p : Pair) → Has ps p → IsConsistent p

-- each joined pair is consistent
pub consistent_join : (ps qs : List Pair) → AllConsistent (join ps qs)
consistent_join ps qs r h =
    let (p, q, k, m, e) = join_parts ps qs r h in
    let i = join_pair_is p q r e in
    subst IsConsistent (sym i.0) i.1

-- nor does the pair that asks for nothing
pub consistent_empty : AllConsistent (empty_pair ∷ [])
consistent_empty r (inl e) = subst IsConsistent (sym e) refl
consistent_empty r (inr x) = absurd x

-- with nothing more a pair asks for no more
pub united_alone : (p : Pair) → Within (united p empty_pair) p
united_alone p = united_least p empty_pair p (within_refl p) (record { cube = λ l k. absurd k; targets = λ i k. absurd k })

-- of the until rows those count that have their places in `counted`
module _ (table : Table) (counted : RowSet) where
  -- with a pair that it is safe to drop for, a consistent pair has its marks for all until rows that count
  pub safe_marked : (t u : Pair) → IsConsistent t → IsSafeToDrop table counted t u → (f : Normal) → Has table.untils f → is_counted table counted f ≡ true → is_marked table t f ≡ true → is_marked table u f ≡ true
  safe_marked t u c s f h k m =
      marked_alike table (united u empty_pair) u f (united_alone u) (within_left u empty_pair)
      (safe_keeps table counted t u s empty_pair (consistent_within (united t empty_pair) t (united_alone t) c) f h k
      (marked_alike table t (united t empty_pair) f (within_left t empty_pair) (united_alone t) m))

module _ (table : Table) where
  -- a pair within t that has its marks too has a transition that implies that of t
  pub marked_implies : (t u : Pair) → Within u t → ((f : Normal) → Has table.untils f → is_marked table t f ≡ true → is_marked table u f ≡ true) → Implies (with_marks table u) (with_marks table t)
  marked_implies t u w marked = record {
    cube = w.cube;
    targets = w.targets;
    marks = λ k h.
        let c = places_cases (is_marked table t) 0 table.untils Bottom k h in
        let l = c.1 in
        let m = marked (slice_index_or table.untils (k - 0) Bottom) (Has-at table.untils (k - 0) Bottom (omega arith)) c.2 in
        let e : 0 + (k - 0) ≡ k = omega arith in
        subst (Has (with_marks table u).marks) e (Has-places (is_marked table u) 0 table.untils Bottom (k - 0) (omega arith) m);
  }

  -- transitions stand in the order of their pairs
  pub transitions_rise : (ps : List Pair) → IsRising pair_cmp ps → IsRising transition_cmp (map (with_marks table) ps)
  transitions_rise [] r = tt
  transitions_rise (p ∷ ps) r = (
    all_from (λ u. transition_cmp (with_marks table p) u ≡ Less) (map (with_marks table) ps)
        (λ u h. let (q, k, e) = map_cases (with_marks table) ps u h in subst (λ x. transition_cmp (with_marks table p) x ≡ Less) (sym e) (all_at (λ x. pair_cmp p x ≡ Less) ps q r.0 k)),
    transitions_rise ps r.1,
  )

  -- some of the pairs whose transitions imply those of all have the same unimplied ones
  pub covered_transitions : (ps qs : List Pair) → AllProper ps → ((q : Pair) → Has qs q → Has ps q)
      → ((p : Pair) → Has ps p → (q : Pair) × Has qs q × Implies (with_marks table q) (with_marks table p)) → unimplied_of table ps ≡ unimplied_of table qs
  covered_transitions ps qs proper from above =
      unimplied_covered (map (with_marks table) (set_of pair_cmp ps)) (map (with_marks table) (set_of pair_cmp qs))
      (transitions_rise (set_of pair_cmp ps) (IsRising-set_of pair_linear ps)) (transitions_rise (set_of pair_cmp qs) (IsRising-set_of pair_linear qs)) sets within covers
    where
      sets : (t : Transition) → Has (map (with_marks table) (set_of pair_cmp ps)) t → HasSets t
      sets t h =
          let (p, k, e) = map_cases (with_marks table) (set_of pair_cmp ps) t h in
          let w = proper p (set_of_cases pair_linear ps p k) in
          subst HasSets (sym e) (record { cube = w.cube; targets = w.targets })

      within : (u : Transition) → Has (map (with_marks table) (set_of pair_cmp qs)) u → Has (map (with_marks table) (set_of pair_cmp ps)) u
      within u h =
          let (q, k, e) = map_cases (with_marks table) (set_of pair_cmp qs) u h in
          subst (Has (map (with_marks table) (set_of pair_cmp ps))) (sym e)
          (Has-map (with_marks table) (set_of pair_cmp ps) q (Has-set_of pair_linear ps q (from q (set_of_cases pair_linear qs q k))))

      covers : (t : Transition) → Has (map (with_marks table) (set_of pair_cmp ps)) t → (u : Transition) × Has (map (with_marks table) (set_of pair_cmp qs)) u × Implies u t
      covers t h =
          let (p, k, e) = map_cases (with_marks table) (set_of pair_cmp ps) t h in
          let (q, i, w) = above p (set_of_cases pair_linear ps p k) in
          (with_marks table q, Has-map (with_marks table) (set_of pair_cmp qs) q (Has-set_of pair_linear qs q i), subst (Implies (with_marks table q)) (sym e) w)
