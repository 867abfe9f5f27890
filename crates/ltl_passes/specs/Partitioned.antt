-- An automaton with a partition of its states.
use Rattle.std.specs.Prelude.{◌≡◌, ℕ, length, take}
use Rattle.ltl_spec.specs.Automata.Automaton.{Automaton}
use Rattle.ltl_spec.specs.Construction.Merging.{quotient}
use Rattle.ltl_automaton.specs.CodedEdges.{tables_of}
use Rattle.ltl_automaton.specs.Labels.{AreCoded, AreTables, Tables, labelled}
use Rattle.ltl_automaton.specs.SharedView.{automaton_of}
use Rattle.ltl_passes.specs.Partition.{AreNames, IsNumbering, IsWithinStates}
use Rattle.ltl_passes.specs.declared.quotient.Partitioned as code

-- its quotient, with the labels
abbrev pub quotient_of : {A : Type 0} → code.Partitioned A → Automaton
quotient_of p = quotient p.keep_implied p.names.now (labelled (tables_of p.labels) (automaton_of p.states.now))

-- its edges have numbers of labels and lead to states, and its classes are numbered by their names
pub record IsPartitioned {A : Type 0} (p : code.Partitioned A) : Type 0 where
  pub tables : AreTables (tables_of p.labels)
  pub coded : AreCoded (tables_of p.labels) (automaton_of p.states.now)
  pub within : IsWithinStates (automaton_of p.states.now).states
  pub long : length p.names.now ≡ length (automaton_of p.states.now).states
  pub named : AreNames p.names.now
  pub numbering : IsNumbering p.names.now p.numbering.classes.items p.numbering.numbers.items

-- the first states
abbrev pub first_states : Automaton → ℕ → Automaton
first_states A n = record { sets = A.sets; states = take n A.states }

-- what was made of the first states
pub record AreStatesMade (t : Tables) (A B : Automaton) (n : ℕ) : Type 0 where
  pub labelled : labelled t B ≡ first_states A n
  pub coded : AreCoded t B

-- the states of the first n classes
abbrev pub AreClassesMade : {A : Type 0} → code.Partitioned A → Automaton → ℕ → Type 0
AreClassesMade p B n = AreStatesMade (tables_of p.labels) (quotient_of p) B n
