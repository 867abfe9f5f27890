-- Pairs that are left of a list, each other one of which may be replaced by one of these.
use Rattle.std.proofs.Common.{◌≡◌, ℕ, zero, suc, ◌<◌, Bool, true, false, not, ◌&&◌, inl, inr, List, [], ◌∷◌, ◌++◌, refl, sym, ◌∙◌, ap, subst, arith}
use Rattle.std.specs.List.{filter, list_any}
use Rattle.std.specs.Prelude.{nat_lt}
use Rattle.std.proofs.lemmas.Bool.Decides.{nat_tests}
use Rattle.ltl_spec.specs.Collections.Sets.{Has, IsRising, set_of}
use Rattle.ltl_spec.specs.Transitions.Pairs.{RowSet, Pair, pair_cmp}
use Rattle.ltl_spec.specs.Transitions.Pruning.{IsSafeToDrop, is_within}
use Rattle.ltl_spec.specs.Transitions.RowTransitions.{Table}
use Rattle.ltl_spec.proofs.Collections.CaseLaws.{left_true, right_true}
use Rattle.ltl_spec.proofs.Collections.MemberLaws.{any_cases}
use Rattle.ltl_spec.proofs.Collections.Orders.{pair_linear}
use Rattle.ltl_spec.proofs.Collections.SetLaws.{append_cases, filter_cases, Has-filter, set_of_same, IsRising-set_of}
use Rattle.ltl_spec.proofs.Transitions.IndependenceTests.{Support, shares_some, support_of}
use Rattle.ltl_spec.proofs.Transitions.JoinLaws.{within_refl}
use Rattle.ltl_spec.proofs.Transitions.LeastPairs.{is_within_Decides}
use Rattle.ltl_alt.specs.WantedView.{AreCountedSteps}
use Rattle.ltl_alt.specs.Elements.{may_replace}
use Rattle.ltl_alt.specs.StandIns.{AreAmong, AreKept, AreSpares, IsFit, IsKeptBy, IsPruned, IsPrunedSafely, StandsFor, is_replaced, size_of}
use Rattle.ltl_alt.specs.Tests.{AreTests}
use Rattle.ltl_alt.specs.declared.fulfilment.Fulfilment.{Fulfilment}
use Rattle.ltl_alt.specs.declared.lacks.Spare.{Spare}
use Rattle.ltl_alt.specs.declared.rule.Rule.{Rule}
use Rattle.ltl_alt.specs.declared.rule.Rule.TheVariants as rule
use Rattle.ltl_alt.proofs.LackLaws.{lack_safe}
use Rattle.ltl_alt.proofs.StandInLaws.{kept_all, kept_on, kept_same, stands_in}

not_true : (a : Bool) → not a ≡ true → a ≡ false
not_true true e = cc
not_true false e = refl

smaller_is : (m n : ℕ) → nat_lt m n ≡ true → m < n
smaller_is m n e = grind (arith, nat_tests)

-- then repeated ones are dropped
pub pruned_once : {A : Type 0} (r : Rule) (f : Fulfilment A) (ps ds qs : List Pair) → AreKept r f ps ds → qs ≡ set_of pair_cmp ds → IsPruned r f ps qs
pruned_once r f ps ds qs w e T fit =
    let o = stands_in T r in
    let rising = subst (IsRising pair_cmp) (sym e) (IsRising-set_of pair_linear ds) in
    record { kept = kept_on o ps ds qs (w T fit) (kept_same o ds qs (ap (set_of pair_cmp) e ∙ set_of_same pair_linear (set_of pair_cmp ds) (IsRising-set_of pair_linear ds))); rising = rising }

-- those that are safe to drop are dropped
pub kept_safely : {A : Type 0} (r : Rule) (f : Fulfilment A) (counted : RowSet) (ps qs : List Pair) → r ≡ rule.SafelySubsumed counted → IsPrunedSafely f counted ps qs → AreKept r f ps qs
kept_safely r f counted ps qs n w T fit = subst (λ x. IsKeptBy (StandsFor T x) ps qs) (sym n) (w T (subst (λ x. IsFit T x f) n fit))

-- or none
pub none_dropped : {A : Type 0} (r : Rule) (f : Fulfilment A) (ps : List Pair) → AreKept r f ps ps
none_dropped r f ps T fit = kept_all (stands_in T r) ps

pub nothing_pruned : {A : Type 0} (f : Fulfilment A) (counted : RowSet) (ps : List Pair) → IsPrunedSafely f counted ps ps
nothing_pruned f counted ps T tests = kept_all (stands_in T (rule.SafelySubsumed counted)) ps

-- one more is among them
pub among_more : (ps qs new : List Pair) (p : Pair) → Has ps p → new ≡ qs ++ p ∷ [] → AreAmong ps qs → AreAmong ps new
among_more ps qs new p there e w q h = elim (append_cases qs (p ∷ []) q (subst (λ xs. Has xs q) e h)) [
  | inl k ↦ w q k
  | inr k ↦ elim k [ inl d ↦ subst (Has ps) (sym d) there | inr x ↦ absurd x ]
]

-- a lookup for the pair tells
pub replaced_by : (ss : List Spare) (p : Pair) (v : Support) (s : Spare) (b : Bool) → s ≡ record { pair = p; lacks = v; size = size_of p } → b ≡ list_any (λ u. nat_lt u.size s.size && may_replace u s.pair) ss → is_replaced ss p ≡ b
replaced_by ss p v s b e f = sym (f ∙ ap (λ (x : Spare). list_any (λ u. nat_lt u.size x.size && may_replace u x.pair) ss) e)

module _ {A : Type 0} (T : Table) (f : Fulfilment A) (tests : AreTests T f) (counted : RowSet) (roots : List ℕ) (ps chosen qs : List Pair) (ss : List Spare) (counts : AreCountedSteps f.untils.items counted roots)
    (among : AreAmong ps chosen) (spares : AreSpares f roots chosen ss) (left : qs ≡ filter (λ p. not (is_replaced ss p)) ps) where
  -- a pair that goes has a smaller one, which stays or has one
  climb : (fuel : ℕ) (t : Pair) → size_of t < fuel → Has ps t → (v : Pair) × Has qs v × IsSafeToDrop T counted t v
  climb zero t l h = absurd (omega arith)
  climb (suc fuel) t l h = elim (is_replaced ss t) as (λ b. is_replaced ss t ≡ b → (v : Pair) × Has qs v × IsSafeToDrop T counted t v) [
    | false ↦ λ e. (t, subst (λ xs. Has xs t) (sym left) (Has-filter (λ p. not (is_replaced ss p)) ps t h (ap not e)), (stands_in T (rule.SafelySubsumed counted)).itself t)
    | true ↦ λ e.
        let (s, k, x) = any_cases (λ u. nat_lt u.size (size_of t) && may_replace u t) ss e in
        let less : s.size < size_of t = smaller_is s.size (size_of t) (left_true (nat_lt s.size (size_of t)) (may_replace s t) x) in
        let may = right_true (nat_lt s.size (size_of t)) (may_replace s t) x in
        let within = (is_within_Decides s.pair t).0 (left_true (is_within s.pair t) (not (shares_some s.lacks (support_of t))) may) in
        let nothing = not_true (shares_some s.lacks (support_of t)) (right_true (is_within s.pair t) (not (shares_some s.lacks (support_of t))) may) in
        let spare = spares s k in
        let size = spare.size in
        let safe = lack_safe T f tests counted roots counts t s.pair s.pair s.lacks spare.lack nothing within (within_refl s.pair) in
        let (v, j, y) = climb fuel s.pair (omega arith) (among s.pair spare.there) in
        (v, j, (stands_in T (rule.SafelySubsumed counted)).on t s.pair v safe y)
  ] refl

  left_kept : IsKeptBy (IsSafeToDrop T counted) ps qs
  left_kept = record {
    from = λ p h. (filter_cases (λ q. not (is_replaced ss q)) ps p (subst (λ xs. Has xs p) left h)).0;
    covers = λ p h. climb (suc (size_of p)) p (omega arith) h;
  }

-- those are left that no smaller one of some of them may replace
pub left_pruned : {A : Type 0} (f : Fulfilment A) (counted : RowSet) (roots : List ℕ) (ps chosen qs : List Pair) (ss : List Spare) → AreCountedSteps f.untils.items counted roots → AreAmong ps chosen
    → AreSpares f roots chosen ss → qs ≡ filter (λ p. not (is_replaced ss p)) ps → IsPrunedSafely f counted ps qs
left_pruned f counted roots ps chosen qs ss counts among spares left T tests = left_kept T f tests counted roots ps chosen qs ss counts among spares left
