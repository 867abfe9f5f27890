-- Which of the edges of a state imply others.
use Rattle.std.specs.Prelude.{Bool, not, ◌&&◌}
use Rattle.std.specs.Ordering.{nat_cmp}
use Rattle.ltl_spec.specs.Collections.Sets.{IsRising}
use Rattle.ltl_spec.specs.Transitions.Cubes.{literal_cmp}
use Rattle.ltl_spec.specs.Automata.Automaton.{Edge}
use Rattle.ltl_spec.specs.Construction.Merging.{same_edge, implies_edge}

-- the literals of the edge are a set, and its marks too
pub record IsSetEdge (e : Edge) : Type 0 where
  pub cube : IsRising literal_cmp e.cube
  pub marks : IsRising nat_cmp e.marks

-- f is another edge than e and implies it
abbrev pub implies_other : Edge → Edge → Bool
implies_other f e = not (same_edge f e) && implies_edge f e
