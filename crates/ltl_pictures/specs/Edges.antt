-- The edges of a state.
use Rattle.std.specs.Prelude.{ℕ, List, [], slice_index_or}
use Rattle.ltl_spec.specs.Automata.Automaton.{Edge}
use Rattle.ltl_spec.specs.Hoa.HoaReading.{MarkedAutomaton}

abbrev pub edges_at : MarkedAutomaton → ℕ → List Edge
edges_at A k = slice_index_or A.edges k []
