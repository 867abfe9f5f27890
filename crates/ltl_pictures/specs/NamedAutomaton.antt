-- An automaton with the names that its text has.
use Rattle.std.specs.Prelude.{ℕ, List, Option, None, slice_index_or}
use Rattle.ltl_spec.specs.Hoa.HoaNames.{HoaNames}
use Rattle.ltl_spec.specs.Hoa.HoaReading.{MarkedAutomaton}

pub record NamedAutomaton : Type 0 where
  pub automaton : MarkedAutomaton
  pub names : HoaNames

-- the name of a state, where there is one
abbrev pub state_name : HoaNames → ℕ → Option (List ℕ)
state_name names k = slice_index_or names.states k None
