-- The transitions of a list of different pairs, sorted after implied ones are removed.
use Rattle.std.proofs.Common.{◌≡◌, Bool, true, false, List, map, refl, sym, ◌∙◌, ap, subst}
use Rattle.std.specs.Prelude.{if◌then◌else◌, not}
use Rattle.std.specs.declared.cmp.Ordering.TheVariants.{Equal}
use Rattle.std.specs.List.Sorted.{IsSorted, IsPermutation}
use Rattle.std.proofs.lemmas.Cmp.{tied_itself}
use Rattle.std.proofs.lemmas.List.Sorted.{Contains-permutation, IsPermutation-sym}
use Rattle.ltl_spec.specs.Collections.Sets.{Has, set_of}
use Rattle.ltl_spec.specs.Collections.Lists.{HasNoRepeats}
use Rattle.ltl_spec.specs.Transitions.Pairs.{Pair}
use Rattle.ltl_spec.specs.Transitions.RowTransitions.{Table, with_marks, Transition, transition_cmp, unimplied_transitions}
use Rattle.ltl_spec.proofs.Collections.SetLaws.{Has-set_of, IsRising-set_of, filter_cases, same_members, set_of_cases}
use Rattle.ltl_spec.proofs.Collections.SortedOnce.{sorted_once}
use Rattle.ltl_spec.proofs.Collections.ListLaws.{Contains-from_has, Has-from_contains, HasNoRepeats-map}
use Rattle.ltl_spec.proofs.Collections.MemberLaws.{Has-map, map_cases}
use Rattle.ltl_spec.proofs.Transitions.TransitionLaws.{Implies, is_implied}
use Rattle.ltl_spec.proofs.Transitions.UnimpliedLaws.{same_in_rising, marks_too_linear, rises_too, transition_total, unimplied_is, Has-unimplied}
use Rattle.ltl_spec.proofs.Transitions.ProductTransitions.{transitions_of, transitions_of_rise, transitions_of_cases, Has-transitions_of, same_pair}
use Rattle.ltl_spec.proofs.Transitions.FactorLaws.{sorted_too}
use Rattle.ltl_spec.proofs.Transitions.ConjunctSets.{HasNoRepeats-filter}

-- the transitions of pairs, in the order of the pairs
abbrev pub transitions_as_listed : Table → Bool → List Pair → List Transition
transitions_as_listed table keep_implied ps =
    let ts = map (with_marks table) ps in
    if keep_implied then ts else unimplied_transitions ts

module _ (table : Table) where
  -- transitions of pairs of a list that compare as equal are equal
  exact : (ps : List Pair) (p q : Pair) → Has ps p → Has ps q → transition_cmp (with_marks table p) (with_marks table q) ≡ Equal → with_marks table p ≡ with_marks table q
  exact ps p q h k e =
      let all = transitions_of table true ps in
      same_in_rising transition_total all (with_marks table p) (with_marks table q) (transitions_of_rise table true ps) (Has-transitions_of table true ps p h (λ d. cc)) (Has-transitions_of table true ps q k (λ d. cc)) e

  -- the same transitions, whatever the order
  listed_cases : (keep : Bool) (ps : List Pair) (t : Transition) → Has (transitions_as_listed table keep ps) t → Has (transitions_of table keep ps) t
  listed_cases true ps t h =
      let (p, k, e) = map_cases (with_marks table) ps t h in
      subst (Has (transitions_of table true ps)) (sym e) (Has-transitions_of table true ps p k (λ d. cc))
  listed_cases false ps t h =
      let all = map (with_marks table) ps in
      let (p, k, e) = map_cases (with_marks table) ps t (filter_cases (λ x. not (is_implied all x)) all t h).0 in
      subst (Has (transitions_of table false ps)) (sym e)
      (Has-transitions_of table false ps p k (λ d q m w.
      exact ps q p m k (unimplied_is all (with_marks table p) (with_marks table q) (subst (Has (unimplied_transitions all)) e h) (Has-map (with_marks table) ps q m) w)))

  Has-listed : (keep : Bool) (ps : List Pair) (t : Transition) → Has (transitions_of table keep ps) t → Has (transitions_as_listed table keep ps) t
  Has-listed true ps t h =
      let (p, k, e, f) = transitions_of_cases table true ps t h in
      subst (Has (map (with_marks table) ps)) (sym e) (Has-map (with_marks table) ps p k)
  Has-listed false ps t h =
      let all = map (with_marks table) ps in
      let (p, k, e, f) = transitions_of_cases table false ps t h in
      Has-unimplied all t (subst (Has all) (sym e) (Has-map (with_marks table) ps p k)) (λ u m w.
      let (q, n, d) = map_cases (with_marks table) ps u m in
      ap (λ x. transition_cmp x t) (d ∙ f refl q n (subst (λ x. Implies x t) d w)) ∙ tied_itself transition_total t)

  -- different pairs have different transitions
  listed_once : (keep : Bool) (ps : List Pair) → HasNoRepeats ps → HasNoRepeats (transitions_as_listed table keep ps)
  listed_once keep ps r = elim keep as (λ b. HasNoRepeats (transitions_as_listed table b ps)) [ true ↦ all | false ↦ HasNoRepeats-filter (λ x. not (is_implied (map (with_marks table) ps) x)) (map (with_marks table) ps) all ]
    where
      all : HasNoRepeats (map (with_marks table) ps)
      all = HasNoRepeats-map (with_marks table) ps (λ p q h k e. same_pair table p q e) r

  -- sorted, they are the transitions of the set of these pairs
  pub sorted_transitions : (keep : Bool) (ps : List Pair) (us ts : List Transition) → HasNoRepeats ps → us ≡ transitions_as_listed table keep ps → IsPermutation us ts → IsSorted transition_cmp ts → ts ≡ transitions_of table keep ps
  sorted_transitions keep ps us ts r e p s =
      let goal = transitions_of table keep ps in
      let inside : (t : Transition) → Has ts t → Has goal t = λ t h.
      listed_cases keep ps t (subst (λ xs. Has xs t) e (Has-from_contains us t (Contains-permutation ts us t (IsPermutation-sym us ts p) (Contains-from_has ts t h)))) in
      sorted_once marks_too_linear us ts p (sorted_too goal (transitions_of_rise table keep ps) ts inside s) (subst HasNoRepeats (sym e) (listed_once keep ps r))
      ∙ same_members marks_too_linear (set_of _ us) goal (IsRising-set_of marks_too_linear us) (rises_too goal (transitions_of_rise table keep ps))
      (λ t h. listed_cases keep ps t (subst (λ xs. Has xs t) e (set_of_cases marks_too_linear us t h)))
      (λ t h. Has-set_of marks_too_linear us t (subst (λ xs. Has xs t) (sym e) (Has-listed keep ps t h)))
