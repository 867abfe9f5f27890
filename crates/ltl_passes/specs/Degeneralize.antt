-- The implicit graph of the copies of an automaton's states.
use Rattle.std.specs.Prelude.{◌==◌, ℕ, true, [], ◌∷◌, map}
use Rattle.ltl_spec.specs.Collections.Sets.{set_of}
use Rattle.ltl_spec.specs.Automata.Automaton.{Automaton, Edge, state_at}
use Rattle.ltl_spec.specs.Construction.Levels.{LevelState, LevelEdge, level_edge_cmp, level_edges, next_level}
use Rattle.ltl_automaton.specs.Net.{Net, Move}
use Rattle.ltl_automaton.specs.Labels.{Tables, marks_in}
use Rattle.ltl_passes.specs.declared.degeneralize.LevelEdge as code

-- an edge of the code, with its number as a cube
abbrev pub level_edge_of : code.LevelEdge → LevelEdge
level_edge_of e = record { cube = record { proposition = e.cube; positive = true } ∷ []; copy = e.copy }

-- the edge as a successor without marks
abbrev pub successor_of : LevelEdge → Move LevelState
successor_of e = record { cube = e.cube; key = e.copy; marks = [] }

abbrev pub level_net : Automaton → Net LevelState
level_net A = record { successors = λ p. map successor_of (level_edges A p); accepts = λ p. p.level == A.sets }

-- the edge of a copy, where cubes and marks are numbers of these tables
abbrev pub coded_level_edge : Tables → ℕ → ℕ → Edge → LevelEdge
coded_level_edge t sets level e = record { cube = e.cube; copy = record { state = e.target; level = next_level sets (marks_in t e.marks) level } }

-- the edge as a successor with the number of no marks
abbrev pub coded_successor : LevelEdge → Move LevelState
coded_successor e = record { cube = e.cube; key = e.copy; marks = 0 ∷ [] }

-- an edge of the code as such a successor
abbrev pub level_move : code.LevelEdge → Move LevelState
level_move e = coded_successor (level_edge_of e)

abbrev pub coded_level_net : Tables → Automaton → Net LevelState
coded_level_net t A = record {
  successors = λ p. map coded_successor (set_of level_edge_cmp (map (coded_level_edge t A.sets p.level) (state_at A p.state).edges));
  accepts = λ p. p.level == A.sets;
}
