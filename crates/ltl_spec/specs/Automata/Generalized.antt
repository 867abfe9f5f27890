-- The generalized automaton of a formula in normal form. Its states are sets of rows.
use Rattle.std.specs.Prelude.{ℕ, Bool, true, false, nat_eq, [], ◌∷◌, length}
use Rattle.std.specs.Cmp.Lexicographic.{pointwise}
use Rattle.ltl_spec.specs.NormalForms.Normal.{Normal}
use Rattle.ltl_spec.specs.Transitions.Pairs.{RowSet}
use Rattle.ltl_spec.specs.Transitions.RowTransitions.{table_of, place, Transition, transitions}
use Rattle.ltl_spec.specs.Automata.Listing.{PassesLimits}
use Rattle.ltl_spec.specs.Automata.Automaton.{Automaton}
use Rattle.ltl_spec.specs.Automata.Net.{Net, targets_of, IsReachable}

abbrev pub same_row_set : RowSet → RowSet → Bool
same_row_set = pointwise nat_eq

module _ (core : Normal) (keep_implied : Bool) where
  -- the sets of rows with their transitions; each set is accepting, so only the acceptance sets count
  abbrev pub row_net : Net RowSet Transition
  row_net = record { moves = transitions (table_of core) keep_implied; target = λ t. t.targets; edge = λ t n. record { cube = t.cube; target = n; marks = t.marks }; accepts = λ e. true }

  -- the set that holds the root alone
  abbrev pub root_set : RowSet
  root_set = place (table_of core) core ∷ []

  -- the automaton over all sets that are reached; the edges of a state rise by literals and then by the target as a set
  abbrev pub IsGeneralized : Automaton → Type 0
  IsGeneralized = IsReachable same_row_set false row_net root_set (length (table_of core).untils)

  -- the automaton has too many states or edges
  abbrev pub IsTooLarge : ℕ → ℕ → Type 0
  IsTooLarge = PassesLimits same_row_set (targets_of row_net) root_set
