-- The memo table of joins of numbered lists of pairs.
use Rattle.std.specs.Prelude.{◌≡◌, ℕ, ◌<◌, List, length}
use Rattle.ltl_spec.specs.Collections.Sets.{Has, set_of}
use Rattle.ltl_spec.specs.Transitions.Pairs.{Pair, pair_cmp, join}
use Rattle.ltl_spec.specs.Transitions.RowTransitions.{Table}
use Rattle.ltl_alt.specs.declared.memo.JoinKey.{JoinKey}
use Rattle.ltl_alt.specs.declared.rule.Rule.{Rule}
use Rattle.ltl_alt.specs.ConjunctTableView.{conjunct_of}
use Rattle.ltl_alt.specs.StandIns.{IsListed, StandsFor}

-- the list with this number has these pairs
abbrev pub IsListAt : List (List Pair) → List Pair → ℕ → Type 0
IsListAt lists pairs k = (k < length lists) × (conjunct_of lists k ≡ pairs)

-- the list with this number is the pruned join of the two lists
pub record IsJoin (T : Table) (r : Rule) (lists : List (List Pair)) (key : JoinKey) (joined : ℕ) : Type 0 where
  pub left : key.left < length lists
  pub right : key.right < length lists
  pub both : joined < length lists
  pub listed : IsListed (StandsFor T r) (join (conjunct_of lists key.left) (conjunct_of lists key.right)) (conjunct_of lists joined)

-- all joins of two lists, as a set
abbrev pub last_list : List (List Pair) → JoinKey → List Pair
last_list lists key = set_of pair_cmp (join (conjunct_of lists key.left) (conjunct_of lists key.right))

-- each remembered join is right
abbrev pub AreJoins : Table → Rule → List (List Pair) → List (JoinKey × ℕ) → Type 0
AreJoins T r lists joins = (key : JoinKey) (joined : ℕ) → Has joins (key, joined) → IsJoin T r lists key joined
