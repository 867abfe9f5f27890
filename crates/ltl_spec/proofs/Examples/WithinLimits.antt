-- How an example shows that a translation is within the limits.
use Rattle.std.proofs.Common.{ℕ, ◌≤◌, Bool, false, inl, inr, List, length, refl, subst}
use Rattle.ltl_spec.specs.Automata.Listing.{listing, edges_after, IsComplete}
use Rattle.ltl_spec.specs.NormalForms.Normal.{Normal}
use Rattle.ltl_spec.specs.Transitions.Pairs.{RowSet}
use Rattle.ltl_spec.specs.Transitions.RowTransitions.{table_of}
use Rattle.ltl_spec.specs.Automata.Automaton.{Automaton}
use Rattle.ltl_spec.specs.Automata.Generalized.{same_row_set, row_net, root_set}
use Rattle.ltl_spec.specs.Automata.Net.{targets_of, listed_automaton}
use Rattle.ltl_spec.specs.Construction.Merging.{merged_automaton}
use Rattle.ltl_spec.specs.Construction.Levels.{same_level_state, level_net, HasTooManyLevelStates, start_copy}
use Rattle.ltl_spec.specs.Construction.Translation.{Options, IsTranslationTooLarge}
use Rattle.ltl_spec.proofs.Automata.CountsLaws.{never_passed}
use Rattle.ltl_spec.proofs.Construction.GeneralizedBounds.{one_generalized}

-- the generalized automaton over the sets that were listed when n were taken
abbrev pub generalized_within : Normal → Bool → ℕ → Automaton
generalized_within N keep_implied = listed_automaton same_row_set false (row_net N keep_implied) (root_set N keep_implied) (length (table_of N).untils)

-- where n sets of rows and m copies are all, and no limit is passed by them, none is passed on the way
module _ (N : Normal) (o : Options) (n m states edges : ℕ) where
  abbrev targets : RowSet → List RowSet
  targets = targets_of (row_net N o.keep_implied)

  abbrev root : RowSet
  root = root_set N o.keep_implied

  abbrev found : Automaton
  found = merged_automaton o.keep_implied o.keep_equal (generalized_within N o.keep_implied n)

  pub translation_fits : IsComplete same_row_set targets root n → length (listing same_row_set targets root n) ≤ states → edges_after same_row_set targets root n ≤ edges
      → IsComplete same_level_state (targets_of (level_net found)) start_copy m → length (listing same_level_state (targets_of (level_net found)) start_copy m) ≤ states → edges_after same_level_state (targets_of (level_net found)) start_copy m ≤ edges
      → ¬ (IsTranslationTooLarge N o states edges)
  translation_fits c s e d t f (inl p) = never_passed same_row_set targets root states edges n c s e p
  translation_fits c s e d t f (inr (A, g, p)) =
      let same = one_generalized N o.keep_implied A (generalized_within N o.keep_implied n) g (n, c, refl) in
      never_passed same_level_state (targets_of (level_net found)) start_copy states edges m d t f (subst (λ B. HasTooManyLevelStates (merged_automaton o.keep_implied o.keep_equal B) states edges) same p)
