-- The labels of an automaton, as the code keeps them: in the order in which they come, and in a table.
use Rattle.std.specs.Prelude.{◌≡◌, ℕ, ◌<◌, List, [], ◌++◌, length, map, slice_get, slice_index_or, Some, All}
use Rattle.ltl_spec.specs.Collections.Lists.{HasNoRepeats}
use Rattle.ltl_spec.specs.Collections.Sets.{Has}
use Rattle.ltl_spec.specs.Transitions.Cubes.{Cube}
use Rattle.ltl_spec.specs.Automata.Automaton.{Automaton, Edge}
use Rattle.ltl_automaton.specs.CodedEdges.{coded_edge_of, table_of}
use Rattle.ltl_automaton.specs.Labels.{AreCoded, AreTables, IsCoded, Tables, coded_edge, labelled, labelled_edge, number_of_cube}
use Rattle.ltl_automaton.specs.SharedView.{automaton_of}
use Rattle.ltl_automaton.specs.declared.coded_builder.CodedBuilder as building
use Rattle.ltl_automaton.specs.declared.ranks.Ranks as ranking
use Rattle.ltl_automaton.specs.declared.coded_edge.CodedEdge as numbered
use Rattle.ltl_automaton.specs.declared.coded_states.CodedStates as made

-- the automaton with its labels
abbrev pub labelled_of : {A : Type 0} → made.CodedStates A → Automaton
labelled_of c = labelled (table_of c.table) (automaton_of c.states)

-- its labels are strictly sorted, and its edges have numbers of them
pub record HasLabels {A : Type 0} (c : made.CodedStates A) : Type 0 where
  pub tables : AreTables (table_of c.table)
  pub coded : AreCoded (table_of c.table) (automaton_of c.states)

-- the labels in the order in which they came
abbrev pub met_of : {A : Type 0} → building.CodedBuilder A → Tables
met_of b = record { cubes = b.cubes.keys; marks = b.marks.keys }

abbrev pub built_of : {A : Type 0} → building.CodedBuilder A → Automaton
built_of b = labelled (met_of b) (automaton_of b.states)

-- each label is there once
abbrev pub AreOnce : Tables → Type 0
AreOnce t = HasNoRepeats t.cubes × HasNoRepeats t.marks

-- the edges have numbers of labels that came, each of which is there once, and no marks are among these
pub record IsBuilt {A : Type 0} (b : building.CodedBuilder A) : Type 0 where
  pub coded : AreCoded (met_of b) (automaton_of b.states)
  pub none : Has b.marks.keys []
  pub once : AreOnce (met_of b)

-- the second tables begin with the first
pub record Extends (t u : Tables) : Type 0 where
  pub cubes : (more : List Cube) × (u.cubes ≡ t.cubes ++ more)
  pub marks : (more : List (List ℕ)) × (u.marks ≡ t.marks ++ more)

-- these edges, with numbers for their labels
pub record AreMade (t : Tables) (made : List numbered.CodedEdge) (es : List Edge) : Type 0 where
  pub edges : map (labelled_edge t) (map coded_edge_of made) ≡ es
  pub coded : All (IsCoded t) (map coded_edge_of made)

-- for each value its place among the sorted ones
abbrev pub AreRanks : {K : Type 0} → List K → List K → List ℕ → Type 0
AreRanks values sorted ranks = map (slice_get sorted) ranks ≡ map Some values

-- the first n sorted values have their places
pub record HavePlaces {K : Type 0} (values sorted : List K) (ranks : List ℕ) (n : ℕ) : Type 0 where
  pub long : length ranks ≡ length values
  pub there : (k i : ℕ) (x : K) → k < n → slice_get sorted k ≡ Some x → slice_get values i ≡ Some x → slice_index_or ranks i 0 ≡ k

-- the same for both kinds of labels
pub record HaveRanks {A : Type 0} (t : Tables) (r : ranking.Ranks A) : Type 0 where
  pub cubes : AreRanks t.cubes r.table.cubes.items r.cubes.items
  pub marks : AreRanks t.marks r.table.marks.items r.marks.items

-- the numbers of the edge have places
pub record HasRanks {A : Type 0} (r : ranking.Ranks A) (e : Edge) : Type 0 where
  pub cube : number_of_cube e.cube < length r.cubes.items
  pub marks : slice_index_or e.marks 0 0 < length r.marks.items

-- the edge with the places of its labels in place of their numbers
abbrev pub ranked_edge : {A : Type 0} → ranking.Ranks A → Edge → Edge
ranked_edge r e = coded_edge (slice_index_or r.cubes.items (number_of_cube e.cube) 0) e.target (slice_index_or r.marks.items (slice_index_or e.marks 0 0) 0)
