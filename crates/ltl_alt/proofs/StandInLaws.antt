-- Lists in which pairs stand for others.
use Rattle.std.proofs.Common.{◌≡◌, inl, inr, List, ◌++◌, refl, sym, ◌∙◌, subst, Some}
use Rattle.ltl_spec.specs.Collections.Sets.{Has, set_of}
use Rattle.ltl_spec.specs.Transitions.Pairs.{RowSet, Pair, pair_cmp, join_pair, join}
use Rattle.ltl_spec.specs.Transitions.RowTransitions.{Table}
use Rattle.ltl_spec.specs.Transitions.Pruning.{IsSafeToDrop}
use Rattle.ltl_spec.proofs.Collections.Orders.{pair_linear}
use Rattle.ltl_spec.proofs.Collections.SetLaws.{append_cases, append_left, append_right, set_of_same, set_of_alike, set_of_cases, Has-set_of}
use Rattle.ltl_spec.proofs.Transitions.JoinLaws.{join_parts, Has-join}
use Rattle.ltl_spec.proofs.Transitions.SafeLaws.{safe_refl, safe_trans, safe_join}
use Rattle.ltl_alt.specs.StandIns.{IsKeptBy, IsListed, StandsFor, IsFit, IsPruned}
use Rattle.ltl_alt.specs.Tests.{AreTests}
use Rattle.ltl_alt.specs.declared.fulfilment.Fulfilment.{Fulfilment}
use Rattle.ltl_alt.specs.declared.rule.Rule.{Rule}
use Rattle.ltl_alt.specs.declared.rule.Rule.TheVariants as rule

-- ---- the rules

-- a pair stands for itself, for those that those stand for for which it stands, and in joins
pub record IsStandIn (S : Pair → Pair → Type 0) : Type 0 where
  pub itself : (t : Pair) → S t t
  pub on : (t u v : Pair) → S t u → S u v → S t v
  pub joined : (t u s v a : Pair) → S t u → S s v → join_pair t s ≡ Some a → (b : Pair) × (join_pair u v ≡ Some b) × S a b

equal_stands : IsStandIn (λ t u. t ≡ u)
equal_stands = record {
  itself = λ t. refl;
  on = λ t u v a b. a ∙ b;
  joined = λ t u s v a d e f. (a, sym (λ i. join_pair (d i) (e i)) ∙ f, refl);
}

safe_stands : (T : Table) (counted : RowSet) → IsStandIn (IsSafeToDrop T counted)
safe_stands T counted = record { itself = safe_refl T counted; on = safe_trans T counted; joined = safe_join T counted }

pub stands_in : (T : Table) (r : Rule) → IsStandIn (StandsFor T r)
stands_in T rule.Duplicate = equal_stands
stands_in T (rule.SafelySubsumed counted) = safe_stands T counted

-- ---- what was kept

module _ {S : Pair → Pair → Type 0} (o : IsStandIn S) where
  pub kept_all : (ps : List Pair) → IsKeptBy S ps ps
  kept_all ps = record { from = λ q h. h; covers = λ p h. (p, h, o.itself p) }

  -- so does a list with the same set
  pub kept_same : (ps qs : List Pair) → set_of pair_cmp qs ≡ set_of pair_cmp ps → IsKeptBy S ps qs
  kept_same ps qs e = record {
    from = λ q h. set_of_cases pair_linear ps q (subst (λ xs. Has xs q) e (Has-set_of pair_linear qs q h));
    covers = λ p h. (p, set_of_cases pair_linear qs p (subst (λ xs. Has xs p) (sym e) (Has-set_of pair_linear ps p h)), o.itself p);
  }

  pub kept_on : (ps qs rs : List Pair) → IsKeptBy S ps qs → IsKeptBy S qs rs → IsKeptBy S ps rs
  kept_on ps qs rs a b = record {
    from = λ r h. a.from r (b.from r h);
    covers = λ p h.
        let (q, k, s) = a.covers p h in
        let (r, m, t) = b.covers q k in
        (r, m, o.on p q r s t);
  }

  pub kept_join : (ps qs rs ss : List Pair) → IsKeptBy S ps qs → IsKeptBy S rs ss → IsKeptBy S (join ps rs) (join qs ss)
  kept_join ps qs rs ss a b = record {
    from = λ r h.
        let (p, q, k, m, e) = join_parts qs ss r h in
        Has-join ps rs p q r (a.from p k) (b.from q m) e;
    covers = λ r h.
        let (p, q, k, m, e) = join_parts ps rs r h in
        let (u, i, s) = a.covers p k in
        let (v, j, t) = b.covers q m in
        let (w, d, x) = o.joined p u q v r s t e in
        (w, Has-join qs ss u v w i j d, x);
  }

  pub kept_append : (ps qs rs ss : List Pair) → IsKeptBy S ps qs → IsKeptBy S rs ss → IsKeptBy S (ps ++ rs) (qs ++ ss)
  kept_append ps qs rs ss a b = record {
    from = λ r h. elim (append_cases qs ss r h) [ inl k ↦ append_left ps rs r (a.from r k) | inr k ↦ append_right ps rs r (b.from r k) ];
    covers = λ r h. elim (append_cases ps rs r h) [
      | inl k ↦ let (q, m, s) = a.covers r k in (q, append_left qs ss q m, s)
      | inr k ↦ let (q, m, s) = b.covers r k in (q, append_right qs ss q m, s)
    ];
  }

-- what the rule that drops repeated ones alone lists is the set
pub listed_equal : (T : Table) (ps qs : List Pair) → IsListed (StandsFor T rule.Duplicate) ps qs → qs ≡ set_of pair_cmp ps
listed_equal T ps qs w =
    sym (set_of_same pair_linear qs w.rising)
    ∙ set_of_alike pair_linear qs ps w.kept.from (λ p h. let (q, k, e) = w.kept.covers p h in subst (Has qs) (sym e) k)

-- ---- what was pruned

-- of what was kept
pub pruned_of : {A : Type 0} (T : Table) (r : Rule) (f : Fulfilment A) (ps qs rs : List Pair) → IsFit T r f → IsKeptBy (StandsFor T r) ps qs → IsPruned r f qs rs → IsListed (StandsFor T r) ps rs
pruned_of T r f ps qs rs fit k w =
    let d = w T fit in
    record { kept = kept_on (stands_in T r) ps qs rs k d.kept; rising = d.rising }

-- the tests of a table are what its rules take
pub tests_fit : {A : Type 0} (T : Table) (r : Rule) (f : Fulfilment A) → AreTests T f → IsFit T r f
tests_fit T rule.Duplicate f w = tt
tests_fit T (rule.SafelySubsumed counted) f w = w
