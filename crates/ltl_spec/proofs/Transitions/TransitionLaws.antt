-- The transitions of a set of rows: what they need, and which of them are kept.
use Rattle.std.proofs.Common.{◌≡◌, ℕ, zero, suc, ◌+◌, ◌<◌, ◌≤◌, Bool, true, false, not, ◌&&◌, inl, inr, List, [], ◌∷◌, length, map, refl, sym, ◌∙◌, ap, subst, arith, ◌⊎◌}
use Rattle.std.specs.Prelude.{fold, slice_index_or}
use Rattle.std.specs.List.{list_any}
use Rattle.std.specs.declared.cmp.Ordering.{Ordering}
use Rattle.std.specs.declared.cmp.Ordering.TheVariants.{Less}
use Rattle.std.specs.Ordering.{nat_cmp, is_ne, ordering_then}
use Rattle.std.proofs.lemmas.Cmp.{tied_itself}
use Rattle.std.proofs.lemmas.Bool.{cases_lt}
use Rattle.ltl_spec.specs.Collections.Sets.{Has, IsRising, is_subset, IsLinearOrder}
use Rattle.ltl_spec.specs.Transitions.Cubes.{Literal, literal_cmp, cube_cmp, Cube}
use Rattle.ltl_spec.specs.NormalForms.Normal.{Bottom}
use Rattle.ltl_spec.specs.Transitions.Pairs.{RowSet, row_set_cmp, Pair, join, empty_pair}
use Rattle.ltl_spec.specs.Transitions.RowTransitions.{Table, place, pairs_at, successors, with_marks, Transition, implies, transition_cmp, unimplied_transitions, transitions}
use Rattle.ltl_spec.proofs.Collections.SetLaws.{all_at, set_of_cases, is_subset_Decides, filter_cases, Has-filter, irreflexive}
use Rattle.ltl_spec.proofs.Collections.Orders.{nat_linear, literal_linear, cube_linear, row_set_linear, pair_linear}
use Rattle.ltl_spec.proofs.Collections.MemberLaws.{any_cases, map_cases, Has-map}
use Rattle.ltl_spec.proofs.Transitions.JoinLaws.{within_refl, SomeWithin, join_within, AllProper, proper_join, proper_nothing, pairs_proper}
use Rattle.ltl_spec.proofs.Collections.CaseLaws.{false_is_true, left_true, right_true}
pub use Rattle.ltl_spec.specs.Transitions.RowTransitions.{HasSets}

-- what a successor asks for

module _ (t : Table) where
  -- the pairs of more rows at once, beside those of `ps`
  abbrev pub joined : List Pair → RowSet → List Pair
  joined ps e = fold (λ qs i. join qs (pairs_at t i)) ps e

  -- it is above one of those that were there
  pub joined_within : (e : RowSet) (ps : List Pair) (r : Pair) → Has (joined ps e) r → SomeWithin ps r
  joined_within [] ps r h = (r, h, within_refl r)
  joined_within (i ∷ e) ps r h = (join_within ps (pairs_at t i) r (joined_within e (join ps (pairs_at t i)) r h)).0

  -- and above a pair of each row
  pub joined_supports : (e : RowSet) (ps : List Pair) (r : Pair) → Has (joined ps e) r → (k : ℕ) → Has e k → SomeWithin (pairs_at t k) r
  joined_supports [] ps r h k m = absurd m
  joined_supports (i ∷ e) ps r h k (inl d) = subst (λ x. SomeWithin (pairs_at t x) r) (sym d) (join_within ps (pairs_at t i) r (joined_within e (join ps (pairs_at t i)) r h)).1
  joined_supports (i ∷ e) ps r h k (inr m) = joined_supports e (join ps (pairs_at t i)) r h k m

  -- its literals and targets are sets
  joined_proper : (e : RowSet) (ps : List Pair) → AllProper ps → AllProper (joined ps e)
  joined_proper [] ps f = f
  joined_proper (i ∷ e) ps f = joined_proper e (join ps (pairs_at t i)) (proper_join ps (pairs_at t i) (λ p h. pairs_proper (place t) (slice_index_or t.elementary i Bottom) p h))

  -- a successor of a set of rows supports each of them
  pub successor_supports : (e : RowSet) (r : Pair) → Has (successors t e) r → (k : ℕ) → Has e k → SomeWithin (pairs_at t k) r
  successor_supports e r h = joined_supports e (empty_pair ∷ []) r (set_of_cases pair_linear (joined (empty_pair ∷ []) e) r h)

  -- a successor's literals and targets are sets
  pub successors_proper : (e : RowSet) → AllProper (successors t e)
  successors_proper e r h = joined_proper e (empty_pair ∷ []) proper_nothing r (set_of_cases pair_linear (joined (empty_pair ∷ []) e) r h)

  -- a transition is a successor with its marks
  pub transition_cases : (keep : Bool) (e : RowSet) (u : Transition) → Has (transitions t keep e) u → (p : Pair) × Has (successors t e) p × (u ≡ with_marks t p)
  transition_cases true e u h = map_cases (with_marks t) (successors t e) u h
  transition_cases false e u h = map_cases (with_marks t) (successors t e) u (filter_cases _ (map (with_marks t) (successors t e)) u h).0

-- which transitions stay

module _ {K : Type 0} {cmp : K → K → Ordering} (o : IsLinearOrder cmp) where
  -- what is below the first element of a rising list is below each
  below_first : (y x : K) (xs : List K) (z : K) → cmp y x ≡ Less → IsRising cmp (x ∷ xs) → Has (x ∷ xs) z → cmp y z ≡ Less
  below_first y x xs z d r (inl e) = subst (λ w. cmp y w ≡ Less) (sym e) d
  below_first y x xs z d r (inr h) = o.total.trans y x z d (all_at (λ w. cmp x w ≡ Less) xs z r.0 h)

  -- a subset isn't longer, and is the set if it is as long
  pub subset_length : (xs ys : List K) → IsRising cmp xs → IsRising cmp ys → ((z : K) → Has xs z → Has ys z) → (length xs ≤ length ys) × (length ys ≤ length xs → xs ≡ ys)
  subset_length [] [] r s f = (omega arith, λ l. refl)
  subset_length [] (y ∷ ys) r s f = (omega arith, λ l. absurd (omega arith))
  subset_length (x ∷ xs) [] r s f = absurd (f x (inl refl))
  subset_length (x ∷ xs) (y ∷ ys) r s f =
      elim (f x (inl refl)) [
        | inl e ↦
            let rest = subset_length xs ys r.1 s.1 (λ z h. elim (f z (inr h)) [
              | inl i ↦ absurd (irreflexive o x z (all_at (λ w. cmp x w ≡ Less) xs z r.0 h) (e ∙ sym i))
              | inr k ↦ k
            ]) in
            let l = rest.0 in
            (omega arith, λ m. (let d = rest.1 (omega arith) in λ i. e i ∷ d i))
        | inr h ↦
            let down : cmp y x ≡ Less = all_at (λ w. cmp y w ≡ Less) ys x s.0 h in
            let rest = subset_length (x ∷ xs) ys r s.1 (λ z m. elim (f z m) [
              | inl i ↦ absurd (irreflexive o y z (below_first y x xs z down r m) (sym i))
              | inr k ↦ k
            ]) in
            let l = rest.0 in
            (omega arith, λ m. absurd (omega arith))
      ]

-- u asks for no more than t, and is in each acceptance set that t is in
pub record Implies (u t : Transition) : Type 0 where
  pub cube : (l : Literal) → Has u.cube l → Has t.cube l
  pub targets : (k : ℕ) → Has u.targets k → Has t.targets k
  pub marks : (k : ℕ) → Has t.marks k → Has u.marks k

-- to imply is an order
pub implies_refl : (t : Transition) → Implies t t
implies_refl t = record { cube = λ l h. h; targets = λ k h. h; marks = λ k h. h }

pub implies_trans : (s t u : Transition) → Implies s t → Implies t u → Implies s u
implies_trans s t u f g = record { cube = λ l h. g.cube l (f.cube l h); targets = λ k h. g.targets k (f.targets k h); marks = λ k h. f.marks k (g.marks k h) }

-- what the test says
pub implies_true : (u t : Transition) → implies u t ≡ true → Implies u t
implies_true u t e =
    let both = left_true (is_subset literal_cmp u.cube t.cube && is_subset nat_cmp u.targets t.targets) (is_subset nat_cmp t.marks u.marks) e in
    record {
      cube = (is_subset_Decides literal_linear u.cube t.cube).0 (left_true _ (is_subset nat_cmp u.targets t.targets) both);
      targets = (is_subset_Decides nat_linear u.targets t.targets).0 (right_true (is_subset literal_cmp u.cube t.cube) _ both);
      marks = (is_subset_Decides nat_linear t.marks u.marks).0 (right_true (is_subset literal_cmp u.cube t.cube && is_subset nat_cmp u.targets t.targets) _ e);
    }

all_three : (a b c : Bool) → a ≡ true → b ≡ true → c ≡ true → (a && b && c) ≡ true
all_three a b c e f g = ap (λ x. x && b && c) e ∙ ap (λ x. x && c) f ∙ g

-- and what it asks
pub true_implies : (u t : Transition) → Implies u t → implies u t ≡ true
true_implies u t f =
    all_three (is_subset literal_cmp u.cube t.cube) (is_subset nat_cmp u.targets t.targets) (is_subset nat_cmp t.marks u.marks) ((is_subset_Decides literal_linear u.cube t.cube).1 f.cube)
    ((is_subset_Decides nat_linear u.targets t.targets).1 f.targets) ((is_subset_Decides nat_linear t.marks u.marks).1 f.marks)

-- of sets of literals and of targets, each within another one: they are fewer, or they are the same
pub fewer_or_same : (c d : Cube) (e f : RowSet) → IsRising literal_cmp c → IsRising literal_cmp d → IsRising nat_cmp e → IsRising nat_cmp f → ((l : Literal) → Has c l → Has d l)
    → ((k : ℕ) → Has e k → Has f k) → (length c + length e < length d + length f) ⊎ ((c ≡ d) × (e ≡ f))
fewer_or_same c d e f rc rd re rf v w =
    let cubes = subset_length literal_linear c d rc rd v in
    let targets = subset_length nat_linear e f re rf w in
    let l : length c ≤ length d = cubes.0 in
    let m : length e ≤ length f = targets.0 in
    elim (cases_lt (length c + length e) (length d + length f)) [
      | inl h ↦ inl h
      | inr h ↦ inr (cubes.1 (omega arith), targets.1 (omega arith))
    ]

-- how much a transition asks for
abbrev size : Transition → ℕ
size t = length t.cube + length t.targets

-- two that ask for the same compare as equal
pub same_asks : (u t : Transition) → u.cube ≡ t.cube → u.targets ≡ t.targets → is_ne (transition_cmp u t) ≡ false
same_asks u t c e = ap is_ne (ap (λ x. ordering_then (cube_cmp u.cube x) (row_set_cmp u.targets t.targets)) (sym c)
    ∙ ap (λ r. ordering_then r (row_set_cmp u.targets t.targets)) (tied_itself cube_linear.total u.cube)
    ∙ ap (row_set_cmp u.targets) (sym e) ∙ tied_itself row_set_linear.total u.targets)

-- another one that implies it asks for less
smaller : (u t : Transition) → HasSets u → HasSets t → Implies u t → is_ne (transition_cmp u t) ≡ true → size u < size t
smaller u t s r w n = elim (fewer_or_same u.cube t.cube u.targets t.targets s.cube r.cube s.targets r.targets w.cube w.targets) [
  | inl h ↦ h
  | inr e ↦ false_is_true (sym (same_asks u t e.0 e.1) ∙ n)
]

-- whether another one of the list implies t
abbrev pub is_implied : List Transition → Transition → Bool
is_implied ts t = list_any (λ u. is_ne (transition_cmp u t) && implies u t) ts

-- each transition is implied by one that stays
stays_above : (ts : List Transition) → ((t : Transition) → Has ts t → HasSets t) → (fuel : ℕ) (t : Transition) → size t < fuel → Has ts t → (u : Transition) × Has (unimplied_transitions ts) u × Implies u t
stays_above ts f zero t l h = absurd (omega arith)
stays_above ts f (suc fuel) t l h =
    elim (is_implied ts t) as (λ b. is_implied ts t ≡ b → (u : Transition) × Has (unimplied_transitions ts) u × Implies u t) [
      | false ↦ λ e. (t, Has-filter (λ x. not (is_implied ts x)) ts t h (ap not e), implies_refl t)
      | true ↦ λ e.
          let (u, k, g) = any_cases (λ x. is_ne (transition_cmp x t) && implies x t) ts e in
          let w = implies_true u t (right_true (is_ne (transition_cmp u t)) _ g) in
          let d : size u < size t = smaller u t (f u k) (f t h) w (left_true _ _ g) in
          let (v, m, q) = stays_above ts f fuel u (omega arith) k in
          (v, m, implies_trans v u t q w)
    ] refl

-- each successor is implied by a transition
pub transition_implies : (t : Table) (keep : Bool) (e : RowSet) (p : Pair) → Has (successors t e) p → (u : Transition) × Has (transitions t keep e) u × Implies u (with_marks t p)
transition_implies t true e p h = (with_marks t p, Has-map (with_marks t) (successors t e) p h, implies_refl (with_marks t p))
transition_implies t false e p h = stays_above (map (with_marks t) (successors t e)) sets (suc (size (with_marks t p))) (with_marks t p) (omega arith) (Has-map (with_marks t) (successors t e) p h)
  where
    sets : (u : Transition) → Has (map (with_marks t) (successors t e)) u → HasSets u
    sets u k =
        let (q, m, d) = map_cases (with_marks t) (successors t e) u k in
        let w = successors_proper t e q m in
        subst HasSets (sym d) (record { cube = w.cube; targets = w.targets })
