-- The support of lists of pairs, and what fulfils the until rows that they postpone.
use Rattle.std.specs.Prelude.{◌≡◌, ℕ, ◌<◌, Bool, true, List, slice_index_or}
use Rattle.ltl_spec.specs.Collections.Sets.{Has}
use Rattle.ltl_spec.specs.NormalForms.Normal.{Bottom}
use Rattle.ltl_spec.specs.Transitions.Pairs.{RowSet, Pair}
use Rattle.ltl_spec.specs.Transitions.RowTransitions.{Table, place}
use Rattle.ltl_spec.specs.Transitions.Pruning.{fulfilling_pairs}
use Rattle.ltl_spec.proofs.Transitions.IndependenceTests.{Support, IsWithinSupport, Covers, CoversFulfilling}
use Rattle.ltl_alt.specs.declared.support.Dependencies.{Dependencies}

-- the old support, with the support of an until row's test if the row is postponed
pub record IsAdded (old leaves : Support) (is_put_off : Bool) (new : Support) : Type 0 where
  pub more : IsWithinSupport old new
  pub told : is_put_off ≡ true → IsWithinSupport leaves new

-- what fulfils those of the first until rows that are among the targets
abbrev pub CoversAllFulfilling : Table → RowSet → ℕ → Support → Type 0
CoversAllFulfilling T targets n w = (i : ℕ) → i < n → Has targets (place T (slice_index_or T.untils i Bottom)) → Covers w (fulfilling_pairs T (slice_index_or T.untils i Bottom))

-- the support of the pairs of a list, and what can fulfil the until rows that they postpone
pub record AreDependencies (T : Table) (ps : List Pair) (d : Dependencies) : Type 0 where
  pub support : Covers d.support ps
  pub fulfilling : CoversFulfilling T (fulfilling_pairs T) d.fulfilling ps
