use Rattle.std.proofs.Common.{ℕ, ◌<◌, ◌∷◌, [], length}
use Rattle.ltl_spec.specs.Collections.Sets.{Has}
use Rattle.ltl_spec.specs.Transitions.Pairs.{empty_pair}
use Rattle.ltl_spec.proofs.Transitions.ConjunctJoins.{join_of}
use Rattle.ltl_spec.proofs.Transitions.SameJoins.{AreSound}
use Rattle.ltl_alt.specs.ComponentView.{AreComponents}
use Rattle.ltl_alt.specs.ConjunctTableView.{IsLonger, conjunct_of}
use Rattle.ltl_alt.specs.StandIns.{IsKeptBy, StandsFor}
use Rattle.ltl_alt.specs.TransitionView.{table_at}
use Rattle.ltl_alt.proofs.ComponentLaws.{joined_on}
use Rattle.ltl_alt.proofs.components.Components.last.Given as goal

abbrev pub invariant-joins : goal.invariant-joins
invariant-joins g l = record {
  within : (k : ℕ) → Has l.lists.items k → k < length l.self.memo.lists.keys;
  sound : (k : ℕ) → Has l.lists.items k → AreSound (conjunct_of l.self.memo.lists.keys k);
  components : AreComponents (table_at l.basis.table.now) l.basis.pruning.rule l.basis.conjuncts.lists.items l.self.memo.lists.keys l.self.memo.joins.entries l.self.nothing l.self.starts.items;
  longer : IsLonger l.fn.self.memo.lists.keys l.self.memo.lists.keys;
  pairs : IsKeptBy (StandsFor (table_at l.basis.table.now) l.basis.pruning.rule) (joined_on (conjunct_of l.basis.conjuncts.lists.items) (empty_pair ∷ []) l.component) (join_of (conjunct_of l.self.memo.lists.keys) l.lists.items);
}

abbrev pub decreases-joins : goal.decreases-joins
decreases-joins g l = length l.lists.items
