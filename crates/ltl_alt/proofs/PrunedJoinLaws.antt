-- Joins that are pruned while they grow.
use Rattle.std.proofs.Common.{◌≡◌, List, [], ◌∷◌, ◌++◌, inl, inr, sym, ◌∙◌, ap, subst}
use Rattle.std.specs.Prelude.{fold, filter_map}
use Rattle.std.specs.Ordering.{eq_by_cmp}
use Rattle.std.proofs.lemmas.List.{append-nil}
use Rattle.std.proofs.lemmas.List.Concat.{flat_map-append}
use Rattle.ltl_spec.specs.Collections.Lists.{with_new}
use Rattle.ltl_spec.specs.Transitions.Pairs.{Pair, pair_cmp, join_pair, join}
use Rattle.ltl_spec.proofs.Collections.ListLaws.{fold_cases, fold_old, fold_new}
use Rattle.ltl_spec.proofs.Collections.SetLaws.{append_cases, append_left, append_right}
use Rattle.ltl_alt.specs.PairHash.{pair_Decides}
use Rattle.ltl_alt.specs.StandIns.{AreKept, IsKeptBy, IsPruned, StandsFor, joins_by_right}
use Rattle.ltl_alt.specs.declared.fulfilment.Fulfilment.{Fulfilment}
use Rattle.ltl_alt.specs.declared.rule.Rule.{Rule}
use Rattle.ltl_alt.proofs.RepeatLaws.{by_right}
use Rattle.ltl_alt.proofs.StandInLaws.{kept_all, kept_append, kept_on, kept_same, pruned_of, stands_in}

module _ {A : Type 0} (r : Rule) (f : Fulfilment A) (left : List Pair) where
  -- the joins with a pair more
  pub grown_more : (taken more ks once next : List Pair) (x : Pair) → AreKept r f (joins_by_right left taken) (ks ++ once) → more ≡ taken ++ x ∷ []
      → next ≡ fold (with_new (eq_by_cmp pair_cmp)) once (filter_map (λ p. join_pair p x) left) → AreKept r f (joins_by_right left more) (ks ++ next)
  grown_more taken more ks once next x w e n T fit =
      let o = stands_in T r in
      let same = eq_by_cmp pair_cmp in
      let last = filter_map (λ p. join_pair p x) left in
      let all = joins_by_right left taken in
      let is : joins_by_right left more ≡ all ++ last =
      ap (joins_by_right left) e ∙ flat_map-append (λ q. filter_map (λ p. join_pair p q) left) taken (x ∷ []) ∙ ap (λ ps. all ++ ps) (append-nil last) in
      let grown : IsKeptBy (StandsFor T r) ((ks ++ once) ++ last) (ks ++ fold (with_new same) once last) = record {
        from = λ q h. elim (append_cases ks (fold (with_new same) once last) q h) [
          | inl k ↦ append_left (ks ++ once) last q (append_left ks once q k)
          | inr k ↦ elim (fold_cases same pair_Decides last once q k) [ inl m ↦ append_left (ks ++ once) last q (append_right ks once q m) | inr m ↦ append_right (ks ++ once) last q m ]
        ];
        covers = λ p h. (
          p,
          elim (append_cases (ks ++ once) last p h) [
            | inl k ↦ elim (append_cases ks once p k) [
              | inl m ↦ append_left ks (fold (with_new same) once last) p m
              | inr m ↦ append_right ks (fold (with_new same) once last) p (fold_old same pair_Decides last once p m)
            ]
            | inr k ↦ append_right ks (fold (with_new same) once last) p (fold_new same pair_Decides last once p k)
          ],
          o.itself p,
        );
      } in
      subst (λ ps. IsKeptBy (StandsFor T r) ps (ks ++ next)) (sym is) (subst (λ ps. IsKeptBy (StandsFor T r) (all ++ last) (ks ++ ps)) (sym n)
      (kept_on o (all ++ last) ((ks ++ once) ++ last) (ks ++ fold (with_new same) once last) (kept_append o all (ks ++ once) last last (w T fit) (kept_all o last)) grown))

  -- they were pruned
  pub grown_pruned : (ps ks zs once : List Pair) → AreKept r f ps ks → IsPruned r f ks zs → once ≡ [] → AreKept r f ps (zs ++ once)
  grown_pruned ps ks zs once w d e T fit =
      let o = stands_in T r in
      subst (λ qs. IsKeptBy (StandsFor T r) ps (zs ++ qs)) (sym e) (subst (IsKeptBy (StandsFor T r) ps) (sym (append-nil zs)) (kept_on o ps ks zs (w T fit) (d T fit).kept))

  -- in the end
  pub grown_ends : (right ks zs : List Pair) → AreKept r f (joins_by_right left right) ks → IsPruned r f ks zs → IsPruned r f (join left right) zs
  grown_ends right ks zs w d T fit =
      let o = stands_in T r in
      pruned_of T r f (join left right) ks zs fit (kept_on o (join left right) (joins_by_right left right) ks (kept_same o (join left right) (joins_by_right left right) (by_right left right)) (w T fit)) d
