-- The implicit graph of a formula's automaton, whose nodes are sets of rows.
use Rattle.std.specs.Prelude.{Bool, true, map}
use Rattle.ltl_spec.specs.NormalForms.Normal.{Normal}
use Rattle.ltl_spec.specs.Transitions.Pairs.{RowSet}
use Rattle.ltl_spec.specs.Transitions.RowTransitions.{table_of, Transition, transitions}
use Rattle.ltl_automaton.specs.Net.{Net, Move}

-- a transition as an edge to its set of rows
abbrev pub transition_move : Transition → Move RowSet
transition_move t = record { cube = t.cube; key = t.targets; marks = t.marks }

-- the transitions of each set of rows; all are accepting
abbrev pub net_of : Normal → Bool → Net RowSet
net_of F keep = record { successors = λ e. map transition_move (transitions (table_of F) keep e); accepts = λ e. true }
