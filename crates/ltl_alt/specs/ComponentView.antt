-- The memo table of joins with the lists of all conjuncts, and the last join of a component.
use Rattle.std.specs.Prelude.{◌≡◌, ℕ, ◌<◌, List, [], ◌∷◌, length, fold, slice_index_or}
use Rattle.ltl_spec.specs.Transitions.Pairs.{RowSet, Pair, join, empty_pair}
use Rattle.ltl_spec.specs.Transitions.RowTransitions.{Table}
use Rattle.ltl_alt.specs.declared.basis.Basis.{Basis}
use Rattle.ltl_alt.specs.declared.components.Components.{Components}
use Rattle.ltl_alt.specs.declared.memo.JoinKey.{JoinKey}
use Rattle.ltl_alt.specs.declared.rule.Rule.{Rule}
use Rattle.ltl_alt.specs.MemoView.{AreJoins, IsListAt, last_list}
use Rattle.ltl_alt.specs.ConjunctTableView.{conjunct_of}
use Rattle.ltl_alt.specs.StandIns.{IsListed, StandsFor}
use Rattle.ltl_alt.specs.TransitionView.{table_at}

-- the list number of a conjunct
abbrev pub start_of : List ℕ → ℕ → ℕ
start_of starts k = slice_index_or starts k 0

-- the memo table has the list of each conjunct under its number
pub record AreStarts (conjuncts lists : List (List Pair)) (starts : List ℕ) : Type 0 where
  pub count : length starts ≡ length conjuncts
  pub each : (k : ℕ) → k < length conjuncts → IsListAt lists (conjunct_of conjuncts k) (start_of starts k)

-- the table also has the list whose only pair needs nothing, and each remembered join is right
pub record AreComponents (T : Table) (r : Rule) (conjuncts lists : List (List Pair)) (made : List (JoinKey × ℕ)) (none : ℕ) (firsts : List ℕ) : Type 0 where
  pub joins : AreJoins T r lists made
  pub nothing : IsListAt lists (empty_pair ∷ []) none
  pub starts : AreStarts conjuncts lists firsts

abbrev pub HasComponents : {A : Type 0} → Basis A → Components A → Type 0
HasComponents b g = AreComponents (table_at b.table.now) b.pruning.rule b.conjuncts.lists.items g.memo.lists.keys g.memo.joins.entries g.nothing g.starts.items

-- the joins of the two lists with these numbers are the joins of a component's conjuncts, pruned by the rule
abbrev pub IsLastOf : Table → Rule → List (List Pair) → List (List Pair) → RowSet → JoinKey → Type 0
IsLastOf T r conjuncts lists component key =
    ((key.left < length lists) × (key.right < length lists)) × IsListed (StandsFor T r) (fold (λ ps i. join ps (conjunct_of conjuncts i)) (empty_pair ∷ []) component) (last_list lists key)
