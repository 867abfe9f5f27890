-- What every set of rows of one exploration shares.
use Rattle.std.specs.Prelude.{◌≡◌, ℕ, ◌<◌, Bool, List, [], ◌∷◌, length}
use Rattle.ltl_spec.specs.Collections.Sets.{Has}
use Rattle.ltl_spec.specs.Transitions.Pairs.{RowSet, Pair, empty_pair}
use Rattle.ltl_spec.specs.Transitions.RowTransitions.{Transition, with_marks}
use Rattle.ltl_formula.specs.TableView.{TableView, IsTable}
use Rattle.ltl_alt.specs.declared.support.Dependencies.{Dependencies}
use Rattle.ltl_alt.specs.declared.basis.Basis.{Basis}
use Rattle.ltl_alt.specs.declared.fulfilment.Fulfilment.{Fulfilment}
use Rattle.ltl_alt.specs.declared.rule.Rule.{Rule}
use Rattle.ltl_alt.specs.ConjunctTableView.{IsConjunctTable}
use Rattle.ltl_alt.specs.StandIns.{IsRuleOf}
use Rattle.ltl_alt.specs.Tests.{AreTests}
use Rattle.ltl_alt.specs.TransitionView.{table_at}

-- the rule is that of the sets of rows, all elementary rows of the table were taken apart by it, and the empty set of rows has one transition
pub record IsBasisOf {A : Type 0} (t : TableView) (keep : Bool) (r : Rule) (f : Fulfilment A) (made owners : List ℕ) (lists : List (List Pair)) (dependencies : List Dependencies) (links : List RowSet) (ts : List Transition) : Type 0 where
  pub table : IsTable t
  pub rule : IsRuleOf (table_at t) keep r
  pub tests : AreTests (table_at t) f
  pub conjuncts : IsConjunctTable (table_at t) r made owners lists dependencies links
  pub all : (i : ℕ) → i < length t.elementary → Has made i
  pub neutral : ts ≡ with_marks (table_at t) empty_pair ∷ []

abbrev pub IsBasis : {A : Type 0} → Basis A → Type 0
IsBasis b = IsBasisOf b.table.now b.keep_implied b.pruning.rule b.pruning.fulfilment.now b.conjuncts.made b.conjuncts.owners.items b.conjuncts.lists.items b.conjuncts.dependencies.items b.conjuncts.links.items b.neutral.items
