-- What pairs and transitions need, what others must not lack for them, and what they lack, by kinds of elements.
use Rattle.std.proofs.Common.{◌≡◌, ℕ, zero, suc, Bool, true, false, not, ◌&&◌, List, [], refl, ap}
use Rattle.std.specs.Ordering.{nat_cmp}
use Rattle.ltl_spec.specs.Collections.Sets.{Has, has}
use Rattle.ltl_spec.specs.Transitions.Pairs.{Pair}
use Rattle.ltl_spec.specs.Transitions.Pruning.{is_within}
use Rattle.ltl_spec.specs.Transitions.RowTransitions.{Transition, implies}
use Rattle.ltl_spec.proofs.Collections.CaseLaws.{left_true, right_true}
use Rattle.ltl_spec.proofs.Collections.Orders.{nat_linear}
use Rattle.ltl_spec.proofs.Collections.SetLaws.{has_Decides}
use Rattle.ltl_spec.proofs.Transitions.IndependenceTests.{Support, Has-names, names_cases, shares_row, shares_sign, shares_some, support_of}
use Rattle.ltl_spec.proofs.Transitions.JoinLaws.{Within}
use Rattle.ltl_spec.proofs.Transitions.LeastPairs.{is_within_Decides}
use Rattle.ltl_spec.proofs.Transitions.TransitionLaws.{implies_true}
use Rattle.ltl_spec.proofs.Transitions.UnimpliedLaws.{not_cases}
use Rattle.ltl_alt.specs.declared.lacks.Spare.{Spare}

-- the numbers of one kind: the propositions of positive literals, those of negative ones, or targets
abbrev pub part : ℕ → Support → List ℕ
part zero a = a.positive
part (suc zero) a = a.negative
part (suc (suc k)) a = a.targets

-- those that a pair needs
abbrev pub needs_of : Pair → ℕ → List ℕ
needs_of p k = part k (support_of p)

-- those that a pair lacks
abbrev pub is_lacked : Spare → ℕ → ℕ → Bool
is_lacked s k e = has nat_cmp e (part k s.lacks)

-- it may replace the pair: it needs no more, and lacks nothing that the pair needs
abbrev pub may_replace : Spare → Pair → Bool
may_replace s p = is_within s.pair p && not (shares_some s.lacks (support_of p))

-- the pair of a transition's literals and targets
abbrev pub pair_of : Transition → Pair
pair_of t = record { cube = t.cube; targets = t.targets }

-- a transition that implies another one has the other one's marks: those are of kind 0
abbrev pub asks_of : Transition → ℕ → List ℕ
asks_of t zero = t.marks
asks_of t (suc k) = []

abbrev pub is_unmarked : Transition → ℕ → ℕ → Bool
is_unmarked t zero e = not (has nat_cmp e t.marks)
is_unmarked t (suc k) e = false

-- what a pair needs, those need that it is within
needs_within : (q p : Pair) (k e : ℕ) → Within q p → Has (needs_of q k) e → Has (needs_of p k) e
needs_within q p zero e w h = Has-names p.cube (record { proposition = e; positive = true }) (w.cube (record { proposition = e; positive = true }) (names_cases true q.cube e h))
needs_within q p (suc zero) e w h = Has-names p.cube (record { proposition = e; positive = false }) (w.cube (record { proposition = e; positive = false }) (names_cases false q.cube e h))
needs_within q p (suc (suc k)) e w h = w.targets e h

-- so do those that it may replace
pub needed_too : (s : Spare) (p : Pair) (k e : ℕ) → may_replace s p ≡ true → Has (needs_of s.pair k) e → Has (needs_of p k) e
needed_too s p k e d h = needs_within s.pair p k e ((is_within_Decides s.pair p).0 (left_true (is_within s.pair p) (not (shares_some s.lacks (support_of p))) d)) h

shares_part : (v b : Support) (k e : ℕ) → Has (part k v) e → Has (part k b) e → shares_some v b ≡ true
shares_part v b zero e h j = shares_sign v b true e h j
shares_part v b (suc zero) e h j = shares_sign v b false e h j
shares_part v b (suc (suc k)) e h j = shares_row v b e h j

-- and it lacks nothing that they need
pub not_lacked : (s : Spare) (p : Pair) (k e : ℕ) → may_replace s p ≡ true → Has (needs_of p k) e → is_lacked s k e ≡ false
not_lacked s p k e d h = elim (has nat_cmp e (part k s.lacks)) as (λ b. has nat_cmp e (part k s.lacks) ≡ b → b ≡ false) [
  | false ↦ λ f. refl
  | true ↦ λ f.
      absurd (not_cases (shares_some s.lacks (support_of p)) (right_true (is_within s.pair p) (not (shares_some s.lacks (support_of p))) d)
      (shares_part s.lacks (support_of p) k e ((has_Decides nat_linear e (part k s.lacks)).0 f) h))
] refl

-- what a transition needs, those need that it implies
pub needed_by_implied : (u t : Transition) (k e : ℕ) → implies u t ≡ true → Has (needs_of (pair_of u) k) e → Has (needs_of (pair_of t) k) e
needed_by_implied u t k e d h = let w = implies_true u t d in needs_within (pair_of u) (pair_of t) k e (record { cube = w.cube; targets = w.targets }) h

-- and it has their marks
pub not_unmarked : (u t : Transition) (k e : ℕ) → implies u t ≡ true → Has (asks_of t k) e → is_unmarked u k e ≡ false
not_unmarked u t zero e d h = let w = implies_true u t d in ap not ((has_Decides nat_linear e u.marks).1 (w.marks e h))
not_unmarked u t (suc k) e d h = refl
