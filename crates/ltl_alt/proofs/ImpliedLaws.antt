-- Only a transition that asks for less implies another one.
use Rattle.std.proofs.Common.{◌≡◌, ℕ, zero, suc, ◌+◌, ◌<◌, ◌≢◌, ◌≤◌, Bool, true, false, cond, not, ◌&&◌, inl, inr, List, [], ◌∷◌, ◌++◌, length, map, take, refl, sym, ◌∙◌, ap, subst, arith}
use Rattle.std.specs.List.{filter}
use Rattle.std.specs.Ordering.{is_ne, nat_cmp}
use Rattle.std.specs.Prelude.{slice_index_or}
use Rattle.std.proofs.lemmas.Bool.Decides.{nat_tests}
use Rattle.std.proofs.lemmas.List.{take_more}
use Rattle.ltl_spec.specs.Collections.Sets.{Has, has}
use Rattle.ltl_spec.specs.Transitions.Pairs.{Pair}
use Rattle.ltl_spec.specs.Transitions.RowTransitions.{Table, Transition, HasSets, implies, transition_cmp, unimplied_transitions, with_marks}
use Rattle.ltl_spec.proofs.Collections.CaseLaws.{false_is_true, left_true, right_true}
use Rattle.ltl_spec.proofs.Collections.MemberLaws.{any_cases, any_true, map_cases}
use Rattle.ltl_spec.proofs.Collections.SetLaws.{append_cases, filter_cases, Has-filter}
use Rattle.ltl_spec.proofs.Transitions.TransitionLaws.{implies_true, fewer_or_same}
use Rattle.ltl_spec.proofs.Transitions.SameJoins.{AreSound}
use Rattle.ltl_alt.specs.Elements.{is_unmarked}
use Rattle.ltl_alt.specs.StandIns.{IsListed, StandsFor}
use Rattle.ltl_alt.specs.TransitionView.{AllSets, AreUpTo, is_heavy, is_implied, weight}
use Rattle.ltl_alt.specs.declared.rule.Rule.{Rule}
use Rattle.ltl_spec.proofs.Transitions.TransitionLaws.{same_asks}

-- it asks for less
lighter : (u t : Transition) → HasSets u → HasSets t → (is_ne (transition_cmp u t) && implies u t) ≡ true → weight u < weight t
lighter u t s r e =
    let w = implies_true u t (right_true (is_ne (transition_cmp u t)) (implies u t) e) in
    elim (fewer_or_same u.cube t.cube u.targets t.targets s.cube r.cube s.targets r.targets w.cube w.targets) [
      | inl h ↦ h
      | inr d ↦ false_is_true (sym (same_asks u t d.0 d.1) ∙ left_true (is_ne (transition_cmp u t)) (implies u t) e)
    ]

-- one more that asks for no more than the greatest
pub up_to_more : (ts : List Transition) (i w most more : ℕ) (t : Transition) → i < length ts → t ≡ slice_index_or ts i t → w ≡ weight t → most ≤ more → w ≤ more → AreUpTo most (take i ts) → AreUpTo more (take (i + 1) ts)
up_to_more ts i w most more t l e same c d f u h =
    elim (append_cases (take i ts) (t ∷ []) u (subst (λ xs. Has xs u) (take_more ts i t l ∙ ap (λ x. take i ts ++ x ∷ []) (sym e)) h)) [
      | inl k ↦ omega (arith, f u k, c)
      | inr k ↦ elim k [ inl b ↦ subst (λ v. weight v ≤ more) (sym b) (omega (arith, same, d)) | inr x ↦ absurd x ]
    ]

pub light : (w most : ℕ) (t : Transition) → w ≡ weight t → w < most → is_heavy most t ≡ false
light w most t e l = let below : weight t < most = omega arith in grind (arith, nat_tests)

pub heavy : (w most : ℕ) (t : Transition) → w ≡ weight t → most ≤ w → is_heavy most t ≡ true
heavy w most t e l = let above : most ≤ weight t = omega arith in grind (arith, nat_tests)

same_truth : (a b : Bool) → (a ≡ true → b ≡ true) → (b ≡ true → a ≡ true) → a ≡ b
same_truth true b f g = sym (f refl)
same_truth false true f g = g refl
same_truth false false f g = refl

same_filter : {K : Type 0} (p q : K → Bool) (xs : List K) → ((x : K) → Has xs x → p x ≡ q x) → filter p xs ≡ filter q xs
same_filter p q [] f = refl
same_filter p q (x ∷ xs) f = λ i. cond (f x (inl refl) i) (x ∷ same_filter p q xs (λ y h. f y (inr h)) i) (same_filter p q xs (λ y h. f y (inr h)) i)

-- so only the lighter ones imply others
by_lighter : (ts : List Transition) (most : ℕ) → AllSets ts → AreUpTo most ts → (t : Transition) → Has ts t → is_implied (filter (λ u. not (is_heavy most u)) ts) t ≡ is_implied ts t
by_lighter ts most sets up t h =
    let p : Transition → Bool = λ u. is_ne (transition_cmp u t) && implies u t in
    let chosen : Transition → Bool = λ u. not (is_heavy most u) in
    same_truth (is_implied (filter chosen ts) t) (is_implied ts t)
    (λ e. let (u, k, f) = any_cases p (filter chosen ts) e in any_true p ts u (filter_cases chosen ts u k).0 f)
    (λ e.
    let (u, k, f) = any_cases p ts e in
    let less : weight u < most = omega (arith, lighter u t (sets u k) (sets t h) f, up t h) in
    any_true p (filter chosen ts) u (Has-filter chosen ts u k (ap not (light (weight u) most u refl less))) f)

pub left_by_lighter : (ts vs us : List Transition) (most : ℕ) → AllSets ts → AreUpTo most ts → vs ≡ filter (λ t. not (is_heavy most t)) ts → us ≡ filter (λ t. not (is_implied vs t)) ts → us ≡ unimplied_transitions ts
left_by_lighter ts vs us most sets up d e =
    e ∙ ap (λ xs. filter (λ t. not (is_implied xs t)) ts) d
    ∙ same_filter (λ t. not (is_implied (filter (λ u. not (is_heavy most u)) ts) t)) (λ t. not (is_implied ts t)) ts (λ t h. ap not (by_lighter ts most sets up t h))

-- what was listed has sets, and so have its transitions
pub listed_sets : (T : Table) (r : Rule) (ps qs : List Pair) (ts : List Transition) → AreSound ps → IsListed (StandsFor T r) ps qs → ts ≡ map (with_marks T) qs → AllSets ts
listed_sets T r ps qs ts sound w d t h =
    let (q, k, i) = map_cases (with_marks T) qs t (subst (λ xs. Has xs t) d h) in
    let s = sound.proper q (w.kept.from q k) in
    subst HasSets (sym i) (record { cube = s.cube; targets = s.targets })

-- of kind 0 a transition lacks the marks that it doesn't have
pub marks_it_lacks : (t : Transition) (k : ℕ) (es fs : List ℕ) → k ≡ 0 → fs ≡ filter (λ i. not (has nat_cmp i t.marks)) es → fs ≡ filter (is_unmarked t k) es
marks_it_lacks t k es fs e f = f ∙ ap (λ n. filter (is_unmarked t n) es) (sym e)

-- of the other kinds it lacks nothing
pub nothing_unmarked : (t : Transition) (k : ℕ) (es : List ℕ) → k ≢ 0 → [] ≡ filter (is_unmarked t k) es
nothing_unmarked t zero es n = absurd (n refl)
nothing_unmarked t (suc k) es n = none es
  where
    none : (xs : List ℕ) → [] ≡ filter (is_unmarked t (suc k)) xs
    none [] = refl
    none (x ∷ xs) = none xs
