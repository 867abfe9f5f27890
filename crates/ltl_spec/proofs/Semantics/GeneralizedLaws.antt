-- The generalized automaton of a formula has an accepting run exactly where the formula holds.
use Rattle.std.proofs.Common.{ℕ, Bool, IsTrue, List, sym, subst, arith}
use Rattle.ltl_spec.specs.NormalForms.Normal.{Normal}
use Rattle.ltl_spec.specs.Semantics.NormalSatisfaction.{Holds}
use Rattle.ltl_spec.specs.Transitions.Pairs.{RowSet}
use Rattle.ltl_spec.specs.Automata.Listing.{listing, IsComplete}
use Rattle.ltl_spec.specs.Automata.Automaton.{Automaton, state_at}
use Rattle.ltl_spec.specs.Automata.Generalized.{same_row_set, row_net, root_set, IsGeneralized}
use Rattle.ltl_spec.specs.Automata.Net.{targets_of}
use Rattle.ltl_spec.proofs.Semantics.Runs.{Run, IsClosed}
use Rattle.ltl_spec.proofs.Automata.ListingReach.{place_start, listed_start, complete_targets}
use Rattle.ltl_spec.proofs.Semantics.RowRuns.{same_row_set_Decides, IsListing, over_accepting, over_closed, row_run, run_of_rows}
use Rattle.ltl_spec.proofs.Semantics.RunHolds.{holds_of_rows}
use Rattle.ltl_spec.proofs.Semantics.HoldsRun.{rows_of_holds}

module _ (core : Normal) (keep : Bool) where
  -- the sets of rows that were listed
  abbrev list_at : ℕ → List RowSet
  list_at n = listing same_row_set (targets_of (row_net core keep)) (root_set core keep) n

  -- once all were taken they are a listing
  complete_listing : (n : ℕ) → IsComplete same_row_set (targets_of (row_net core keep)) (root_set core keep) n → IsListing core keep (list_at n)
  complete_listing n c = record {
    first = place_start same_row_set same_row_set_Decides (targets_of (row_net core keep)) (root_set core keep) n;
    root = listed_start same_row_set same_row_set_Decides (targets_of (row_net core keep)) (root_set core keep) n;
    closed = λ e d h k. complete_targets same_row_set same_row_set_Decides (targets_of (row_net core keep)) (root_set core keep) n (omega (arith, c)) e d h k;
  }

  -- every state is accepting
  pub generalized_accepting : (A : Automaton) → IsGeneralized core keep A → (s : ℕ) → IsTrue (state_at A s).accepting
  generalized_accepting A (n, c, e) s = subst (λ (B : Automaton). IsTrue (state_at B s).accepting) (sym e) (over_accepting core keep (list_at n) s)

  -- the edges lead to states
  pub generalized_closed : (A : Automaton) → IsGeneralized core keep A → IsClosed A
  generalized_closed A (n, c, e) = subst IsClosed (sym e) (over_closed core keep (list_at n) (complete_listing n c))

  -- soundness: where the automaton has a run the formula holds
  pub holds_of_run : (A : Automaton) (truth : ℕ → ℕ → Bool) (step : ℕ → ℕ) → IsGeneralized core keep A → Run A truth step → Holds truth step core 0
  holds_of_run A truth step (n, c, e) r =
      holds_of_rows core keep truth step (row_run core keep (list_at n) (complete_listing n c) truth step (subst (λ B. Run B truth step) e r))

  -- completeness: where the formula holds the automaton has a run
  pub run_of_holds : (A : Automaton) (truth : ℕ → ℕ → Bool) (step : ℕ → ℕ) → IsGeneralized core keep A → ((N : Normal) (i : ℕ) → Dec (Holds truth step N i)) → Holds truth step core 0 → Run A truth step
  run_of_holds A truth step (n, c, e) decide h =
      subst (λ B. Run B truth step) (sym e) (run_of_rows core keep (list_at n) (complete_listing n c) truth step (rows_of_holds core keep truth step decide h))
