-- The memo table of the transitions of components, and the factors of a set of rows, which are numbers of its lists.
use Rattle.std.specs.Prelude.{◌≡◌, ℕ, ◌<◌, Bool, List, [], ◌++◌, length, map, slice_index_or}
use Rattle.ltl_spec.specs.Collections.Sets.{Has}
use Rattle.ltl_spec.specs.Transitions.Pairs.{RowSet, Pair}
use Rattle.ltl_spec.specs.Transitions.RowTransitions.{Table, Transition}
use Rattle.ltl_spec.specs.Transitions.Pruning.{fulfilling_pairs}
use Rattle.ltl_spec.proofs.Transitions.FactorLaws.{AreTakenOut, lists_transitions}
use Rattle.ltl_spec.proofs.Transitions.ConjunctJoins.{join_of}
use Rattle.ltl_spec.proofs.Transitions.ProductTransitions.{transitions_of}
use Rattle.ltl_alt.specs.declared.basis.Basis.{Basis}
use Rattle.ltl_alt.specs.declared.finals.Finals.{Finals}
use Rattle.ltl_alt.specs.declared.memo.JoinKey.{JoinKey}
use Rattle.ltl_alt.specs.ComponentView.{HasComponents}
use Rattle.ltl_alt.specs.MemoView.{last_list}
use Rattle.ltl_alt.specs.ConjunctTableView.{AreKeptBy, conjunct_of}
use Rattle.ltl_alt.specs.StandIns.{IsKeptBy, StandsFor}
use Rattle.ltl_alt.specs.declared.rule.Rule.{Rule}
use Rattle.ltl_alt.specs.TransitionView.{table_at}

-- the stored list with a number
abbrev pub made_of : List (List Transition) → ℕ → List Transition
made_of lists k = slice_index_or lists k []

abbrev pub AreWithin : List (List Transition) → List ℕ → Type 0
AreWithin lists factors = (k : ℕ) → Has factors k → k < length lists

-- some lists were appended
abbrev pub IsLonger : List (List Transition) → List (List Transition) → Type 0
IsLonger old new = (more : List (List Transition)) × (new ≡ old ++ more)

-- the list with this number has the transitions of the joins of two lists
pub record IsListOf (T : Table) (keep : Bool) (pairs : List (List Pair)) (lists : List (List Transition)) (key : JoinKey) (n : ℕ) : Type 0 where
  pub left : key.left < length pairs
  pub right : key.right < length pairs
  pub number : n < length lists
  pub made : made_of lists n ≡ transitions_of T keep (last_list pairs key)

-- the list with this number has the transitions of pairs that were kept of a component's joins by the rule
pub record IsFinal (T : Table) (r : Rule) (keep : Bool) (conjuncts : List (List Pair)) (lists : List (List Transition)) (component : RowSet) (n : ℕ) : Type 0 where
  pub number : n < length lists
  pub pairs : List Pair
  pub kept : IsKeptBy (StandsFor T r) (join_of (conjunct_of conjuncts) component) pairs
  pub made : made_of lists n ≡ transitions_of T keep pairs

-- each remembered answer is right
pub record AreFinals (T : Table) (r : Rule) (keep : Bool) (conjuncts pairs : List (List Pair)) (lists : List (List Transition)) (ns : List (JoinKey × ℕ)) (os : List (RowSet × ℕ)) : Type 0 where
  pub of_joins : (key : JoinKey) (n : ℕ) → Has ns (key, n) → IsListOf T keep pairs lists key n
  pub of_components : (component : RowSet) (n : ℕ) → Has os (component, n) → IsFinal T r keep conjuncts lists component n

-- these are the transitions of pairs that were kept of the joins of components. The components were removed from all conjuncts one by one, each independent of what was left then; the rest is left
pub record AreLists (T : Table) (r : Rule) (keep : Bool) (conjuncts : List (List Pair)) (all : RowSet) (tss : List (List Transition)) (rest : RowSet) : Type 0 where
  pub components : List RowSet
  pub taken : AreTakenOut T (fulfilling_pairs T) (conjunct_of conjuncts) all components rest
  pub pairs : List (List Pair)
  pub kept : AreKeptBy (StandsFor T r) (map (join_of (conjunct_of conjuncts)) components) pairs
  pub lists : tss ≡ lists_transitions T keep pairs

abbrev pub AreFactorsOf : {A : Type 0} → Basis A → List (List Transition) → RowSet → List ℕ → RowSet → Type 0
AreFactorsOf b lists all factors rest =
    AreWithin lists factors × AreLists (table_at b.table.now) b.pruning.rule b.keep_implied b.conjuncts.lists.items all (map (made_of lists) factors) rest

-- the table is right
abbrev pub HasFinals : {A : Type 0} → Basis A → Finals A → Type 0
HasFinals b f =
    HasComponents b f.components × AreFinals (table_at b.table.now) b.pruning.rule b.keep_implied b.conjuncts.lists.items f.components.memo.lists.keys f.lists.keys f.of_joins.entries f.of_components.entries
