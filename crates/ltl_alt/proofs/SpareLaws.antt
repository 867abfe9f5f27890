-- Until rows that count, and what pairs lack, one by one.
use Rattle.std.proofs.Common.{◌≡◌, ℕ, zero, suc, ◌+◌, ◌<◌, Bool, true, false, not, ◌&&◌, inl, inr, List, [], ◌∷◌, ◌++◌, length, take, drop, refl, sym, ◌∙◌, ap, subst, arith, Some}
use Rattle.std.specs.Prelude.{slice_get, slice_index_or}
use Rattle.std.specs.Ordering.{nat_cmp}
use Rattle.std.proofs.lemmas.Option.{slice_get_within}
use Rattle.ltl_spec.specs.Collections.Sets.{Has, has}
use Rattle.ltl_spec.specs.Transitions.Cubes.{Cube}
use Rattle.ltl_spec.specs.Transitions.Pairs.{Pair, RowSet}
use Rattle.ltl_spec.specs.Transitions.Pruning.{is_within}
use Rattle.ltl_spec.proofs.Collections.CaseLaws.{false_is_true}
use Rattle.ltl_spec.proofs.Collections.ListLaws.{slice_get_has}
use Rattle.ltl_spec.proofs.Collections.SetLaws.{append_cases, append_left, append_right}
use Rattle.ltl_spec.proofs.Transitions.IndependenceTests.{Support, no_support, shares_some, support_of}
use Rattle.ltl_sets.specs.Words.{forbidden_of, letter_of}
use Rattle.ltl_alt.specs.WantedView.{AreBlockLacks, AreCountedSteps, IsLack}
use Rattle.ltl_alt.specs.Elements.{may_replace, needs_of}
use Rattle.ltl_alt.specs.StandIns.{AreOfBlock, AreSpares, IsOfBlock}
use Rattle.ltl_alt.specs.declared.fulfilment.Fulfilment.{Fulfilment}
use Rattle.ltl_alt.specs.declared.fulfilment.UntilTest.{UntilTest}
use Rattle.ltl_alt.specs.declared.lacks.Spare.{Spare}
use Rattle.ltl_alt.proofs.NeedsLaws.{same_or_other}
use Rattle.ltl_alt.proofs.SupportLaws.{forbidden_names, letter_names}

-- ---- until rows

-- the tests of the first until rows that count are among these
abbrev pub AreCountedBelow : List UntilTest → RowSet → ℕ → List ℕ → Type 0
AreCountedBelow us counted n roots = (i : ℕ) (u : UntilTest) → i < n → slice_get us i ≡ Some u → has nat_cmp u.place counted ≡ true → Has roots u.step

some_same : {X : Type 0} (x y : X) → Some x ≡ Some y → x ≡ y
some_same x y e = cc

module _ (us : List UntilTest) (counted : RowSet) (n : ℕ) (u : UntilTest) (old new : List ℕ) (found : slice_get us n ≡ Some u) (w : AreCountedBelow us counted n old) where
  counted_next : ((k : ℕ) → Has old k → Has new k) → (has nat_cmp u.place counted ≡ true → Has new u.step) → AreCountedBelow us counted (n + 1) new
  counted_next more here i v l f = elim (same_or_other i n) [
    | inl e ↦ subst (λ (x : UntilTest). has nat_cmp x.place counted ≡ true → Has new x.step) (some_same u v (sym found ∙ ap (slice_get us) (sym e) ∙ f)) here
    | inr d ↦ λ counts. more v.step (w i v (omega arith) f counts)
  ]

  pub counted_in : new ≡ old ++ u.step ∷ [] → AreCountedBelow us counted (n + 1) new
  counted_in f = counted_next (λ j h. subst (λ xs. Has xs j) (sym f) (append_left old (u.step ∷ []) j h)) (λ _. subst (λ xs. Has xs u.step) (sym f) (append_right old (u.step ∷ []) u.step (inl refl)))

  pub counted_out : has nat_cmp u.place counted ≡ false → new ≡ old → AreCountedBelow us counted (n + 1) new
  counted_out d g = counted_next (λ j h. subst (λ xs. Has xs j) (sym g) h) (λ counts. false_is_true (sym d ∙ counts))

pub counted_end : (us : List UntilTest) (counted : RowSet) (n : ℕ) (roots : List ℕ) → n ≡ length us → AreCountedBelow us counted n roots → AreCountedSteps us counted roots
counted_end us counted n roots e w i u f = let l = slice_get_within us i u f in w i u (omega arith) f

-- ---- what pairs need

-- what a pair needs, by kind
module _ (c : Cube) (ts : RowSet) (k : ℕ) where
  pub needs_positive : (ps : List ℕ) → k ≡ 0 → ps ≡ letter_of c → ps ≡ needs_of (record { cube = c; targets = ts }) k
  needs_positive ps e f = f ∙ letter_names c ∙ ap (needs_of (record { cube = c; targets = ts })) (sym e)

  pub needs_negative : (ns : List ℕ) → k ≡ 1 → ns ≡ forbidden_of c → ns ≡ needs_of (record { cube = c; targets = ts }) k
  needs_negative ns e f = f ∙ forbidden_names c ∙ ap (needs_of (record { cube = c; targets = ts })) (sym e)

-- a pair may replace those that it is within, if it lacks nothing of what they need
pub replaces_by_test : (s : Spare) (p : Pair) (v : Support) (within shared : Bool) → within ≡ true → within ≡ is_within s.pair p → v ≡ support_of p → shared ≡ shares_some s.lacks v → not shared ≡ may_replace s p
replaces_by_test s p v within shared e f g h = ap not (h ∙ ap (shares_some s.lacks) g) ∙ ap (λ w. w && not (shares_some s.lacks (support_of p))) (sym e ∙ f)

-- ---- what pairs lack

-- one more pair of a block
pub of_block_more : (ps : List Pair) (vs : List Support) (old now new : List Spare) (s : Spare) → new ≡ now ++ s ∷ [] → IsOfBlock ps vs s → AreOfBlock ps vs old now → AreOfBlock ps vs old new
of_block_more ps vs old now new s e this w n h = elim (append_cases now (s ∷ []) n (subst (λ xs. Has xs n) e h)) [
  | inl j ↦ w n j
  | inr j ↦ elim j [ inl d ↦ inr (subst (IsOfBlock ps vs) (sym d) this) | inr x ↦ absurd x ]
]

-- a pair of a block is one of all
pub among_part : (ps : List Pair) (from n : ℕ) (p : Pair) → Has (take n (drop from ps)) p → Has ps p
among_part ps from n p h = dropped ps from (taken (drop from ps) n h)
  where
    taken : (qs : List Pair) (m : ℕ) → Has (take m qs) p → Has qs p
    taken qs zero h = absurd h
    taken [] (suc m) h = absurd h
    taken (q ∷ qs) (suc m) (inl e) = inl e
    taken (q ∷ qs) (suc m) (inr k) = inr (taken qs m k)

    dropped : (qs : List Pair) (m : ℕ) → Has (drop m qs) p → Has qs p
    dropped qs zero h = h
    dropped [] (suc m) h = h
    dropped (q ∷ qs) (suc m) h = inr (dropped qs m h)

-- a block more
pub spares_added : {A : Type 0} (f : Fulfilment A) (roots : List ℕ) (all ps : List Pair) (vs ws : List Support) (old new : List Spare) → ((p : Pair) → Has ps p → Has all p) → ws ≡ vs → AreBlockLacks f roots ps vs
    → AreOfBlock ps ws old new → AreSpares f roots all old → AreSpares f roots all new
spares_added f roots all ps vs ws old new among same lacks of w s h = elim (of s h) [
  | inl j ↦ w s j
  | inr b ↦ record {
    there = among s.pair (slice_get_has ps b.index s.pair b.there);
    size = b.size;
    lack = subst (IsLack f roots s.pair) (ap (λ xs. slice_index_or xs b.index no_support) (sym same) ∙ b.lacks) (lacks.each b.index s.pair b.there);
  }
]
