-- An automaton that is made of edges of another one.
use Rattle.std.specs.Prelude.{◌≡◌, ℕ, ◌<◌, ◌≤◌, ◌⊎◌, List, length}
use Rattle.ltl_spec.specs.Collections.Sets.{Has}
use Rattle.ltl_spec.specs.Automata.Automaton.{Automaton}
use Rattle.ltl_spec.specs.Checking.Bounds.{HasNamesBelow}
use Rattle.ltl_reduce.specs.Reduction.{edge_count}
use Rattle.ltl_automaton.specs.declared.coded_edge.CodedEdge as made

-- an edge of the list, perhaps without its marks, to a state below a count
pub record IsChosen (edges : List made.CodedEdge) (count : ℕ) (f : made.CodedEdge) : Type 0 where
  pub edge : made.CodedEdge
  pub there : Has edges edge
  pub cube : f.cube ≡ edge.cube
  pub marks : (f.marks ≡ 0) ⊎ (f.marks ≡ edge.marks)
  pub inside : f.target < count

-- it has the same sets, and no more states, edges and propositions
pub record IsBuiltFrom (A B : Automaton) : Type 0 where
  pub sets : B.sets ≡ A.sets
  pub states : length B.states ≤ length A.states
  pub edges : edge_count B ≤ edge_count A
  pub names : (n : ℕ) → HasNamesBelow n A → HasNamesBelow n B
