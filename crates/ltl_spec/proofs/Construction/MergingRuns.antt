-- Merging keeps accepting runs.
use Rattle.std.proofs.Common.{ℕ, ◌<◌, ◌≤◌, Bool, true, false, cond, List, length, sym, ◌∙◌, ap, arith}
use Rattle.std.specs.Prelude.{slice_index}
use Rattle.ltl_spec.specs.Automata.Automaton.{Automaton, state_at}
use Rattle.ltl_spec.specs.Construction.Merging.{retargeted_state, class_names, merged_automaton}
use Rattle.ltl_spec.proofs.Semantics.Runs.{Run, IsClosed}
use Rattle.ltl_spec.proofs.Construction.RoundLaws.{names_length, name_first, name_low, name_twice, seen_is, merged_alike}
use Rattle.ltl_spec.proofs.Construction.QuotientRuns.{HasSetEdges, HasAllAccepting, IsNaming, quotient_closed, quotient_sets, quotient_accepting, quotient_run, run_of_quotient}

module _ (A : Automaton) where
  abbrev count : ℕ
  count = length A.states

  -- at first each state is its own name
  first_naming : IsNaming A (class_names A 0)
  first_naming = record {
    long = names_length A 0;
    low = name_low A 0;
    alike = λ s l. ap (λ t. retargeted_state (slice_index (class_names A 0)) (state_at A t)) (name_first A s l);
  }

  -- at the last round a state and the name of its class are alike
  last_naming : IsNaming A (class_names A count)
  last_naming = record {
    long = names_length A count;
    low = name_low A count;
    alike = λ s l.
        let low : slice_index (class_names A count) s ≤ s = name_low A count s l in
        let inside : slice_index (class_names A count) s < count = omega arith in
        let same = merged_alike A (slice_index (class_names A count) s) s inside l (name_twice A count s l) in
        sym (seen_is A count (slice_index (class_names A count) s) inside) ∙ same ∙ seen_is A count s l;
  }

  -- the names that merging takes
  pub naming : (keep_equal : Bool) → IsNaming A (class_names A (cond keep_equal 0 count))
  naming true = first_naming
  naming false = last_naming

  module _ (keep_implied keep_equal : Bool) where
    abbrev names : List ℕ
    names = class_names A (cond keep_equal 0 count)

    -- each edge of the merged automaton leads to a state
    pub merged_closed : IsClosed A → IsClosed (merged_automaton keep_implied keep_equal A)
    merged_closed closed = quotient_closed keep_implied names A (naming keep_equal) closed

    -- the literals and the marks of its edges are sets
    pub merged_sets : HasSetEdges A → HasSetEdges (merged_automaton keep_implied keep_equal A)
    merged_sets sets = quotient_sets keep_implied names A (naming keep_equal) sets

    -- where every state is accepting, every state of it is
    pub merged_accepting : HasAllAccepting A → HasAllAccepting (merged_automaton keep_implied keep_equal A)
    merged_accepting all = quotient_accepting keep_implied names A (naming keep_equal) all

    module _ (holds : ℕ → ℕ → Bool) (step : ℕ → ℕ) where
      -- a run of the automaton gives one of the merged automaton
      pub merged_run : IsClosed A → HasSetEdges A → Run A holds step → Run (merged_automaton keep_implied keep_equal A) holds step
      merged_run closed sets r = quotient_run keep_implied names A (naming keep_equal) holds step closed sets r

      -- and the other way round
      pub run_of_merged : IsClosed A → Run (merged_automaton keep_implied keep_equal A) holds step → Run A holds step
      run_of_merged closed r = run_of_quotient keep_implied names A (naming keep_equal) holds step closed r
