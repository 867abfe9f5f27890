-- Inclusion of pairs, lists that have a smaller pair for each pair, and the marks of a pair by such lists of fulfilling pairs.
use Rattle.std.proofs.Common.{◌≡◌, Bool, true, false, not, ◌&&◌, ◌||◌, ◌⊎◌, inl, inr, List, refl, sym}
use Rattle.std.specs.Bool.{Decides}
use Rattle.std.specs.List.{list_any}
use Rattle.std.specs.Ordering.{nat_cmp}
use Rattle.std.proofs.lemmas.Bool.{and_from, or_right, or_cases, or_left}
use Rattle.ltl_spec.specs.Collections.Sets.{Has, is_subset, has}
use Rattle.ltl_spec.specs.Transitions.Cubes.{literal_cmp}
use Rattle.ltl_spec.specs.NormalForms.Normal.{Normal}
use Rattle.ltl_spec.specs.Transitions.Pairs.{Pair, pairs}
use Rattle.ltl_spec.specs.Transitions.RowTransitions.{Table, place, fulfils, is_marked}
use Rattle.ltl_spec.proofs.Collections.SetLaws.{is_subset_Decides, has_Decides, same_members, filter_cases, Has-filter}
use Rattle.ltl_spec.proofs.Collections.Orders.{nat_linear, literal_linear}
use Rattle.ltl_spec.proofs.Transitions.JoinLaws.{Within, within_trans, IsProper}
use Rattle.ltl_spec.specs.Transitions.Pruning.{is_within, IsEnough, fulfilling_pairs}
use Rattle.ltl_spec.proofs.Transitions.UnimpliedLaws.{not_from, not_cases}
use Rattle.ltl_spec.proofs.Collections.CaseLaws.{left_true, right_true}
use Rattle.ltl_spec.proofs.Collections.MemberLaws.{any_cases, any_true}

-- two tests that hold together are one
pub same_truth : (a b : Bool) → (a ≡ true → b ≡ true) → (b ≡ true → a ≡ true) → a ≡ b
same_truth true b f g = sym (f refl)
same_truth false true f g = g refl
same_truth false false f g = refl

-- pairs within others

-- the test is right
pub is_within_Decides : (q p : Pair) → Decides (is_within q p) (Within q p)
is_within_Decides q p = (
  (λ e. record {
    cube = (is_subset_Decides literal_linear q.cube p.cube).0 (left_true _ _ e);
    targets = (is_subset_Decides nat_linear q.targets p.targets).0 (right_true (is_subset literal_cmp q.cube p.cube) _ e);
  }),
  λ w. and_from _ _ ((is_subset_Decides literal_linear q.cube p.cube).1 w.cube) ((is_subset_Decides nat_linear q.targets p.targets).1 w.targets),
)

-- pairs within each other are equal
pub both_within : (q p : Pair) → IsProper q → IsProper p → Within q p → Within p q → q ≡ p
both_within q p s r w v =
    let c = same_members literal_linear q.cube p.cube s.cube r.cube w.cube v.cube in
    let e = same_members nat_linear q.targets p.targets s.targets r.targets w.targets v.targets in
    λ i. record { cube = c i; targets = e i }

-- pairs that are enough

-- each of all pairs has one of those that are enough within it
pub enough_below : {ps qs : List Pair} → IsEnough ps qs → (p : Pair) → Has ps p → (q : Pair) × Has qs q × Within q p
enough_below e p h = let (q, k, w) = e.covers p h in (q, k, (is_within_Decides q p).0 w)

-- so some are enough
pub enough_from : (ps qs : List Pair) → ((q : Pair) → Has qs q → Has ps q) → ((p : Pair) → Has ps p → (q : Pair) × Has qs q × Within q p) → IsEnough ps qs
enough_from ps qs f g = record { from = f; covers = λ p h. let (q, k, w) = g p h in (q, k, (is_within_Decides q p).1 w) }

-- marks

module _ (t : Table) where
  -- the pairs that fulfil the row without putting it off
  pub fulfilling_cases : (f : Normal) (m : Pair) → Has (fulfilling_pairs t f) m → Has (pairs (place t) f) m × (Has m.targets (place t f) → ⊥)
  fulfilling_cases f m h =
      let c = filter_cases (λ x. not (has nat_cmp (place t f) x.targets)) (pairs (place t) f) m h in
      (c.0, λ k. not_cases _ c.1 ((has_Decides nat_linear (place t f) m.targets).1 k))

  -- and the other way round
  pub Has-fulfilling : (f : Normal) (m : Pair) → Has (pairs (place t) f) m → (Has m.targets (place t f) → ⊥) → Has (fulfilling_pairs t f) m
  Has-fulfilling f m h n =
      Has-filter (λ x. not (has nat_cmp (place t f) x.targets)) (pairs (place t) f) m h
      (not_from (has nat_cmp (place t f) m.targets) (λ e. n ((has_Decides nat_linear (place t f) m.targets).0 e)))

  -- to fulfil the row is to have the pair within, without the row among its targets
  pub fulfils_cases : (f : Normal) (p q : Pair) → fulfils t f p q ≡ true → (Has q.targets (place t f) → ⊥) × Within q p
  fulfils_cases f p q e =
      let a = left_true (is_subset literal_cmp q.cube p.cube && not (has nat_cmp (place t f) q.targets)) _ e in
      let n = right_true (is_subset literal_cmp q.cube p.cube) _ a in (
        (λ k. not_cases _ n ((has_Decides nat_linear (place t f) q.targets).1 k)),
        record {
          cube = (is_subset_Decides literal_linear q.cube p.cube).0 (left_true _ _ a);
          targets = (is_subset_Decides nat_linear q.targets p.targets).0 (right_true (is_subset literal_cmp q.cube p.cube && not (has nat_cmp (place t f) q.targets)) _ e);
        },
      )

  -- and the other way round
  pub fulfils_from : (f : Normal) (p q : Pair) → (Has q.targets (place t f) → ⊥) → Within q p → fulfils t f p q ≡ true
  fulfils_from f p q n w =
      and_from _ _ (and_from _ _ ((is_subset_Decides literal_linear q.cube p.cube).1 w.cube)
      (not_from (has nat_cmp (place t f) q.targets) (λ e. n ((has_Decides nat_linear (place t f) q.targets).0 e))))
      ((is_subset_Decides nat_linear q.targets p.targets).1 w.targets)

  -- the row isn't a target, or one of its fulfilling pairs is within p
  abbrev pub Marked : Pair → Normal → Type 0
  Marked p f = (Has p.targets (place t f) → ⊥) ⊎ ((m : Pair) × Has (fulfilling_pairs t f) m × Within m p)

  -- that is what the mark says
  pub marked_cases : (p : Pair) (f : Normal) → is_marked t p f ≡ true → Marked p f
  marked_cases p f e = elim (or_cases (not (has nat_cmp (place t f) p.targets)) (list_any (fulfils t f p) (pairs (place t) f)) e) [
    | inl n ↦ inl (λ k. not_cases _ n ((has_Decides nat_linear (place t f) p.targets).1 k))
    | inr a ↦
        let (m, h, g) = any_cases (fulfils t f p) (pairs (place t) f) a in
        let c = fulfils_cases f p m g in
        inr (m, Has-fulfilling f m h c.0, c.1)
  ]

  -- the row isn't a target
  absent_from : (p : Pair) (f : Normal) → (Has p.targets (place t f) → ⊥) → not (has nat_cmp (place t f) p.targets) ≡ true
  absent_from p f n = not_from (has nat_cmp (place t f) p.targets) (λ e. n ((has_Decides nat_linear (place t f) p.targets).0 e))

  -- where it is so, the pair is marked
  pub marked_from : (p : Pair) (f : Normal) → Marked p f → is_marked t p f ≡ true
  marked_from p f (inl n) = or_left (not (has nat_cmp (place t f) p.targets)) (list_any (fulfils t f p) (pairs (place t) f)) (absent_from p f n)
  marked_from p f (inr w) =
      let (m, h, v) = w in
      let c = fulfilling_cases f m h in
      or_right (not (has nat_cmp (place t f) p.targets)) (list_any (fulfils t f p) (pairs (place t) f)) (any_true (fulfils t f p) (pairs (place t) f) m c.0 (fulfils_from f p m c.1 v))

  -- the mark by some of the fulfilling pairs that are enough
  pub marked_by_enough : (f : Normal) (ms : List Pair) → IsEnough (fulfilling_pairs t f) ms → (p : Pair)
      → is_marked t p f ≡ (not (has nat_cmp (place t f) p.targets) || list_any (λ m. is_within m p) ms)
  marked_by_enough f ms enough p = same_truth (is_marked t p f) (not (has nat_cmp (place t f) p.targets) || list_any (λ m. is_within m p) ms) to back
    where
      to : is_marked t p f ≡ true → (not (has nat_cmp (place t f) p.targets) || list_any (λ m. is_within m p) ms) ≡ true
      to e = elim (marked_cases p f e) [
        | inl n ↦ or_left (not (has nat_cmp (place t f) p.targets)) (list_any (λ m. is_within m p) ms) (absent_from p f n)
        | inr w ↦
            let (m, h, v) = w in
            let (q, k, u) = enough_below enough m h in
            or_right (not (has nat_cmp (place t f) p.targets)) (list_any (λ x. is_within x p) ms) (any_true (λ x. is_within x p) ms q k ((is_within_Decides q p).1 (within_trans q m p u v)))
      ]

      back : (not (has nat_cmp (place t f) p.targets) || list_any (λ m. is_within m p) ms) ≡ true → is_marked t p f ≡ true
      back e = elim (or_cases (not (has nat_cmp (place t f) p.targets)) (list_any (λ m. is_within m p) ms) e) [
        | inl n ↦ or_left (not (has nat_cmp (place t f) p.targets)) (list_any (fulfils t f p) (pairs (place t) f)) n
        | inr a ↦ let (m, h, g) = any_cases (λ x. is_within x p) ms a in marked_from p f (inr (m, enough.from m h, (is_within_Decides m p).0 g))
      ]

  -- a mark depends on the members alone
  pub marked_alike : (p q : Pair) (f : Normal) → Within p q → Within q p → is_marked t p f ≡ true → is_marked t q f ≡ true
  marked_alike p q f w v e = marked_from q f (elim (marked_cases p f e) [
    | inl n ↦ inl (λ k. n (v.targets (place t f) k))
    | inr c ↦ let (m, h, u) = c in inr (m, h, within_trans m p q u w)
  ])
