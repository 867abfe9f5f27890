-- The states of an automaton, numbered breadth first.
use Rattle.std.specs.Prelude.{ℕ, true, ◌==◌, length}
use Rattle.ltl_spec.specs.Collections.Sets.{set_of}
use Rattle.ltl_spec.specs.Automata.Automaton.{Automaton, Edge, edge_cmp, state_at}
use Rattle.ltl_spec.specs.Automata.Net.{Net, listed_automaton}

module _ (A : Automaton) where
  -- the states with their edges, by literals, target and marks
  abbrev pub state_net : Net ℕ Edge
  state_net = record { moves = λ s. set_of edge_cmp (state_at A s).edges; target = λ e. e.target; edge = λ e n. record e { target = n }; accepts = λ s. (state_at A s).accepting }

  -- the automaton of the states that are reached, by their new numbers; its edges rise by literals, by the new target and by marks
  abbrev pub renumbered_automaton : Automaton
  renumbered_automaton = listed_automaton ◌==◌ true state_net 0 A.sets (length A.states)
