-- An automaton as an implicit graph whose nodes are state numbers.
use Rattle.std.specs.Prelude.{ℕ, map, All}
use Rattle.ltl_spec.specs.Collections.Sets.{IsRising}
use Rattle.ltl_spec.specs.Automata.Automaton.{Automaton, edge_cmp, state_at}
use Rattle.ltl_spec.specs.Tools.Limits.{stated_limits}
use Rattle.ltl_automaton.specs.Bounds.{IsBounded}
use Rattle.ltl_automaton.specs.CodedEdges.{coded_edge_of}
use Rattle.ltl_automaton.specs.Net.{Net, Move}
use Rattle.ltl_automaton.specs.declared.coded_edge.CodedEdge as code
pub use Rattle.ltl_automaton.specs.Net.{successor_of}

-- an edge of the code as a move to the number of its target
abbrev pub number_move : code.CodedEdge → Move ℕ
number_move e = successor_of (coded_edge_of e)

abbrev pub net_of : Automaton → Net ℕ
net_of A = record { successors = λ s. map successor_of (state_at A s).edges; accepts = λ s. (state_at A s).accepting }

-- the automaton is within the limits, and the edges of each state are strictly sorted
pub record IsNumberable (A : Automaton) : Type 0 where
  pub bounded : IsBounded stated_limits.states stated_limits.edges A
  pub rising : All (λ s. IsRising edge_cmp s.edges) A.states
