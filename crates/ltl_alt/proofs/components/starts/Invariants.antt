use Rattle.std.proofs.Common.{◌≡◌, ℕ, ◌<◌, length}
use Rattle.ltl_alt.specs.ComponentView.{start_of}
use Rattle.ltl_alt.specs.MemoView.{IsListAt}
use Rattle.ltl_alt.specs.ConjunctTableView.{IsLonger, conjunct_of}
use Rattle.ltl_alt.proofs.components.starts.Given as goal

abbrev pub invariant-conjuncts : goal.invariant-conjuncts
invariant-conjuncts g l = record {
  longer : IsLonger l.fn.memo.lists.keys l.memo.lists.keys;
  joins : l.memo.joins.entries ≡ l.fn.memo.joins.entries;
  count : length l.starts.items ≡ l.k;
  each : (j : ℕ) → j < l.k → IsListAt l.memo.lists.keys (conjunct_of l.conjuncts.lists.items j) (start_of l.starts.items j);
}
