-- The transitions that no other one implies: it is enough to know some that imply all.
use Rattle.std.proofs.Common.{◌≡◌, Bool, true, false, not, ◌&&◌, ◌⊎◌, inl, inr, List, [], ◌∷◌, refl, sym, ◌∙◌, ap, subst}
use Rattle.std.specs.declared.cmp.Ordering.{Ordering}
use Rattle.std.specs.declared.cmp.Ordering.TheVariants.{Less, Equal, Greater}
use Rattle.std.specs.Cmp.{IsTotalOrder}
use Rattle.std.specs.Ordering.{is_ne, ordering_then, ordering_reverse, on, then_cmp}
use Rattle.std.proofs.lemmas.Cmp.{tied_itself, on_total, then_total}
use Rattle.std.proofs.lemmas.Bool.{and_from}
use Rattle.ltl_spec.specs.Collections.Sets.{Has, IsRising, IsLinearOrder}
use Rattle.ltl_spec.specs.Transitions.Cubes.{cube_cmp}
use Rattle.ltl_spec.specs.Transitions.Pairs.{row_set_cmp}
use Rattle.ltl_spec.specs.Transitions.RowTransitions.{Transition, implies, transition_cmp, unimplied_transitions}
use Rattle.ltl_spec.proofs.Collections.SetLaws.{all_at, all_from, same_members, filter_cases, Has-filter, IsRising-filter}
use Rattle.ltl_spec.proofs.Collections.Orders.{nat_linear, literal_linear, cube_linear, row_set_linear, first_equal, second_equal}
use Rattle.ltl_spec.proofs.Transitions.TransitionLaws.{Implies, implies_trans, implies_true, HasSets, is_implied, true_implies}
use Rattle.ltl_spec.proofs.Collections.CaseLaws.{false_is_true, left_true, right_true}
use Rattle.ltl_spec.proofs.Collections.MemberLaws.{any_cases, any_true, filter_all}

-- two things compare as different or as equal
pub other_or_equal : (r : Ordering) → (is_ne r ≡ true) ⊎ (r ≡ Equal)
other_or_equal Less = inl refl
other_or_equal Equal = inr refl
other_or_equal Greater = inl refl

-- what compares as equal isn't different
pub equal_not_other : (r : Ordering) → r ≡ Equal → is_ne r ≡ true → ⊥
equal_not_other r e n = false_is_true (sym (ap is_ne e) ∙ n)

-- the test fails where it can't hold
pub not_from : (b : Bool) → (b ≡ true → ⊥) → not b ≡ true
not_from true n = absurd (n refl)
not_from false n = refl

-- a test that fails doesn't hold
pub not_cases : (b : Bool) → not b ≡ true → b ≡ true → ⊥
not_cases true n e = false_is_true n
not_cases false n e = false_is_true e

-- less isn't equal
less_not_equal : (r : Ordering) → r ≡ Less → r ≡ Equal → ⊥
less_not_equal r e f = cc

-- of a rising list two elements that compare as equal are equal
pub same_in_rising : {K : Type 0} {cmp : K → K → Ordering} (o : IsTotalOrder cmp) (xs : List K) (x y : K) → IsRising cmp xs → Has xs x → Has xs y → cmp x y ≡ Equal → x ≡ y
same_in_rising o [] x y r h k e = absurd h
same_in_rising o (z ∷ xs) x y r (inl i) (inl j) e = i ∙ sym j
same_in_rising {cmp = cmp} o (z ∷ xs) x y r (inl i) (inr k) e =
    let d : cmp x y ≡ Less = subst (λ w. cmp w y ≡ Less) (sym i) (all_at (λ w. cmp z w ≡ Less) xs y r.0 k) in
    absurd (less_not_equal (cmp x y) d e)
same_in_rising {cmp = cmp} o (z ∷ xs) x y r (inr h) (inl j) e =
    let d : cmp y x ≡ Less = subst (λ w. cmp w x ≡ Less) (sym j) (all_at (λ w. cmp z w ≡ Less) xs x r.0 h) in
    absurd (less_not_equal (cmp y x) d (o.antisymm y x ∙ ap ordering_reverse e))
same_in_rising o (z ∷ xs) x y r (inr h) (inr k) e = same_in_rising o xs x y r.1 h k e

-- an order of all transitions

-- by the literals, the targets and the marks
abbrev pub marks_too_cmp : Transition → Transition → Ordering
marks_too_cmp = then_cmp transition_cmp (on (λ t. t.marks) row_set_cmp)

-- the comparison of transitions is an order
pub transition_total : IsTotalOrder transition_cmp
transition_total = then_total (on_total (λ (t : Transition). t.cube) cube_linear.total) (on_total (λ (t : Transition). t.targets) row_set_linear.total)

-- with the marks it is a linear order
pub marks_too_linear : IsLinearOrder marks_too_cmp
marks_too_linear = record {
  total = then_total transition_total (on_total (λ (t : Transition). t.marks) row_set_linear.total);
  exact = λ t u h.
      let a = first_equal _ _ h in
      let c = cube_linear.exact t.cube u.cube (first_equal _ _ a) in
      let e = row_set_linear.exact t.targets u.targets (second_equal _ _ a) in
      let m = row_set_linear.exact t.marks u.marks (second_equal _ _ h) in
      λ i. record { cube = c i; targets = e i; marks = m i };
}

-- what rises by literals and targets rises by those and the marks
pub rises_too : (ts : List Transition) → IsRising transition_cmp ts → IsRising marks_too_cmp ts
rises_too [] r = tt
rises_too (t ∷ ts) r = (
  all_from (λ u. marks_too_cmp t u ≡ Less) ts (λ u h. ap (λ a. ordering_then a (row_set_cmp t.marks u.marks)) (all_at (λ v. transition_cmp t v ≡ Less) ts u r.0 h)),
  rises_too ts r.1,
)

-- what no other one implies

-- what implies one that stays compares as equal to it
pub unimplied_is : (ts : List Transition) (t u : Transition) → Has (unimplied_transitions ts) t → Has ts u → Implies u t → transition_cmp u t ≡ Equal
unimplied_is ts t u h k w =
    elim (other_or_equal (transition_cmp u t)) [
      | inl n ↦ absurd (not_cases (is_implied ts t) (filter_cases (λ x. not (is_implied ts x)) ts t h).1
          (any_true (λ x. is_ne (transition_cmp x t) && implies x t) ts u k (and_from _ _ n (true_implies u t w))))
      | inr e ↦ e
    ]

-- and one stays if that is so
pub Has-unimplied : (ts : List Transition) (t : Transition) → Has ts t → ((u : Transition) → Has ts u → Implies u t → transition_cmp u t ≡ Equal) → Has (unimplied_transitions ts) t
Has-unimplied ts t h f = Has-filter (λ x. not (is_implied ts x)) ts t h (not_from (is_implied ts t) never)
  where
    never : is_implied ts t ≡ true → ⊥
    never e =
        let (u, k, g) = any_cases (λ x. is_ne (transition_cmp x t) && implies x t) ts e in
        equal_not_other (transition_cmp u t) (f u k (implies_true u t (right_true (is_ne (transition_cmp u t)) _ g))) (left_true _ _ g)

-- transitions that imply each other compare as equal
pub both_imply : (u t : Transition) → HasSets u → HasSets t → Implies u t → Implies t u → transition_cmp u t ≡ Equal
both_imply u t s r w v =
    let c = same_members literal_linear u.cube t.cube s.cube r.cube w.cube v.cube in
    let e = same_members nat_linear u.targets t.targets s.targets r.targets w.targets v.targets in
    ap (λ x. ordering_then (cube_cmp u.cube x) (row_set_cmp u.targets t.targets)) (sym c)
    ∙ ap (λ x. ordering_then x (row_set_cmp u.targets t.targets)) (tied_itself cube_linear.total u.cube)
    ∙ ap (row_set_cmp u.targets) (sym e) ∙ tied_itself row_set_linear.total u.targets

-- some of the transitions that imply all of them, where those that compare as equal are equal
module _ (ts us : List Transition) (exact : (t u : Transition) → Has ts t → Has ts u → transition_cmp t u ≡ Equal → t ≡ u)
    (within : (u : Transition) → Has us u → Has ts u) (covers : (t : Transition) → Has ts t → (u : Transition) × Has us u × Implies u t) where
  -- what no other one of all implies, no other one of some implies
  pub unimplied_stays : (t : Transition) → Has (unimplied_transitions ts) t → Has (unimplied_transitions us) t
  unimplied_stays t h =
      let k = (filter_cases (λ x. not (is_implied ts x)) ts t h).0 in
      let (u, m, w) = covers t k in
      let e = exact u t (within u m) k (unimplied_is ts t u h (within u m) w) in
      Has-unimplied us t (subst (Has us) e m) (λ v n q. unimplied_is ts t v h (within v n) q)

  -- and the other way round
  pub unimplied_back : ((t : Transition) → Has ts t → HasSets t) → (t : Transition) → Has (unimplied_transitions us) t → Has (unimplied_transitions ts) t
  unimplied_back sets t h =
      let k = within t (filter_cases (λ x. not (is_implied us x)) us t h).0 in
      Has-unimplied ts t k (λ v n q.
      let (u, m, w) = covers v n in
      let e = exact u t (within u m) k (unimplied_is us t u h m (implies_trans u v t w q)) in
      both_imply v t (sets v n) (sets t k) q (subst (λ x. Implies x v) e w))

-- some of the transitions in order that imply all of them have the same unimplied ones
pub unimplied_covered : (ts us : List Transition) → IsRising transition_cmp ts → IsRising transition_cmp us → ((t : Transition) → Has ts t → HasSets t)
    → ((u : Transition) → Has us u → Has ts u) → ((t : Transition) → Has ts t → (u : Transition) × Has us u × Implies u t) → unimplied_transitions ts ≡ unimplied_transitions us
unimplied_covered ts us r s sets within covers =
    same_members marks_too_linear (unimplied_transitions ts) (unimplied_transitions us)
    (IsRising-filter marks_too_cmp (λ t. not (is_implied ts t)) ts (rises_too ts r))
    (IsRising-filter marks_too_cmp (λ t. not (is_implied us t)) us (rises_too us s))
    (unimplied_stays ts us exact within covers) (unimplied_back ts us exact within covers sets)
  where
    exact : (t u : Transition) → Has ts t → Has ts u → transition_cmp t u ≡ Equal → t ≡ u
    exact t u h k e = same_in_rising transition_total ts t u r h k e

-- where none implies another one, all stay
pub unimplied_all : (us : List Transition) → ((u v : Transition) → Has us u → Has us v → Implies v u → transition_cmp v u ≡ Equal) → unimplied_transitions us ≡ us
unimplied_all us f = filter_all (λ t. not (is_implied us t)) us (λ u h. (filter_cases (λ t. not (is_implied us t)) us u (Has-unimplied us u h (λ v k w. f u v h k w))).1)
