-- Pairs that may replace others, and pruned lists.
use Rattle.std.specs.Prelude.{◌≡◌, ℕ, ◌+◌, nat_lt, Bool, true, false, ◌&&◌, ◌⊎◌, Some, List, length, flat_map, filter_map, slice_get, slice_index_or}
use Rattle.std.specs.List.{list_any}
use Rattle.ltl_spec.specs.Collections.Sets.{Has, IsRising}
use Rattle.ltl_spec.specs.Transitions.Pairs.{Pair, RowSet, pair_cmp, join_pair}
use Rattle.ltl_spec.specs.Transitions.RowTransitions.{Table}
use Rattle.ltl_spec.specs.Transitions.Pruning.{IsSafeToDrop}
use Rattle.ltl_spec.specs.Transitions.CountedUntils.{AreCounted}
use Rattle.ltl_spec.proofs.Transitions.IndependenceTests.{Support, no_support}
use Rattle.ltl_alt.specs.WantedView.{IsLack}
use Rattle.ltl_alt.specs.declared.fulfilment.Fulfilment.{Fulfilment}
use Rattle.ltl_alt.specs.declared.lacks.Spare.{Spare}
use Rattle.ltl_alt.specs.declared.rule.Rule.{Rule}
use Rattle.ltl_alt.specs.declared.rule.Rule.TheVariants as rule
use Rattle.ltl_alt.specs.Elements.{may_replace}
use Rattle.ltl_alt.specs.Tests.{AreTests}

-- qs are some of ps, and each of ps has one among qs that replaces it
pub record IsKeptBy (S : Pair → Pair → Type 0) (ps qs : List Pair) : Type 0 where
  pub from : (q : Pair) → Has qs q → Has ps q
  pub covers : (p : Pair) → Has ps p → (q : Pair) × Has qs q × S p q

-- qs are a set besides
pub record IsListed (S : Pair → Pair → Type 0) (ps qs : List Pair) : Type 0 where
  pub kept : IsKeptBy S ps qs
  pub rising : IsRising pair_cmp qs

-- by the rule u may replace t
abbrev pub StandsFor : Table → Rule → Pair → Pair → Type 0
StandsFor T rule.Duplicate t u = t ≡ u
StandsFor T (rule.SafelySubsumed counted) t u = IsSafeToDrop T counted t u

-- the tests of until rows, if the rule uses them
abbrev pub IsFit : {A : Type 0} → Table → Rule → Fulfilment A → Type 0
IsFit T rule.Duplicate f = Unit {0}
IsFit T (rule.SafelySubsumed counted) f = AreTests T f

-- qs are kept of ps, and each dropped pair was safe to drop
abbrev pub IsPrunedSafely : {A : Type 0} → Fulfilment A → RowSet → List Pair → List Pair → Type 0
IsPrunedSafely f counted ps qs = (T : Table) → AreTests T f → IsKeptBy (IsSafeToDrop T counted) ps qs

-- qs are kept of ps by the rule
abbrev pub AreKept : {A : Type 0} → Rule → Fulfilment A → List Pair → List Pair → Type 0
AreKept r f ps qs = (T : Table) → IsFit T r f → IsKeptBy (StandsFor T r) ps qs

-- ps were pruned to qs by the rule
abbrev pub IsPruned : {A : Type 0} → Rule → Fulfilment A → List Pair → List Pair → Type 0
IsPruned r f ps qs = (T : Table) → IsFit T r f → IsListed (StandsFor T r) ps qs

-- the rule for the automaton of a table. Where implied transitions are kept, none but duplicates are dropped
abbrev pub IsRuleOf : Table → Bool → Rule → Type 0
IsRuleOf T true r = r ≡ rule.Duplicate
IsRuleOf T false r = (counted : RowSet) × (r ≡ rule.SafelySubsumed counted) × AreCounted T counted

-- the joins of two lists, grouped by the pair of the right one
abbrev pub joins_by_right : List Pair → List Pair → List Pair
joins_by_right ps qs = flat_map (λ q. filter_map (λ p. join_pair p q) ps) qs

-- the number of a pair's literals and targets
abbrev pub size_of : Pair → ℕ
size_of p = length p.cube + length p.targets

-- one of these is smaller than the pair, and may replace it
abbrev pub is_replaced : List Spare → Pair → Bool
is_replaced ss p = list_any (λ s. nat_lt s.size (size_of p) && may_replace s p) ss

-- one of these pairs, with its size and what it lacks
pub record IsSpare {A : Type 0} (f : Fulfilment A) (roots : List ℕ) (ps : List Pair) (s : Spare) : Type 0 where
  pub there : Has ps s.pair
  pub size : s.size ≡ size_of s.pair
  pub lack : IsLack f roots s.pair s.lacks

abbrev pub AreSpares : {A : Type 0} → Fulfilment A → List ℕ → List Pair → List Spare → Type 0
AreSpares f roots ps ss = (s : Spare) → Has ss s → IsSpare f roots ps s

-- a pair of a block, with its size and its support
pub record IsOfBlock (ps : List Pair) (vs : List Support) (s : Spare) : Type 0 where
  pub index : ℕ
  pub there : slice_get ps index ≡ Some s.pair
  pub size : s.size ≡ size_of s.pair
  pub lacks : slice_index_or vs index no_support ≡ s.lacks

-- each new one is of the block
abbrev pub AreOfBlock : List Pair → List Support → List Spare → List Spare → Type 0
AreOfBlock ps vs old new = (s : Spare) → Has new s → Has old s ⊎ IsOfBlock ps vs s

-- these are some of the pairs
abbrev pub AreAmong : List Pair → List Pair → Type 0
AreAmong ps qs = (q : Pair) → Has qs q → Has ps q
