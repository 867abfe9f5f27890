-- The product of an automaton and a lasso word, as an implicit graph. The word is given by its letters, of which so many are its stem.
use Rattle.std.specs.Prelude.{◌≡◌, ℕ, ◌+◌, ◌*◌, ◌/◌, ◌%◌, ◌<◌, ◌≤◌, All, List, length, nat_lt, if◌then◌else◌, Option, Some, None}
use Rattle.std.specs.Ordering.{nat_cmp}
use Rattle.ltl_spec.specs.Collections.Sets.{has}
use Rattle.ltl_spec.specs.Transitions.Cubes.{allows}
use Rattle.ltl_spec.specs.Automata.Automaton.{Edge}
use Rattle.ltl_spec.specs.Hoa.HoaReading.{MarkedAutomaton}
use Rattle.ltl_spec.specs.Tools.Limits.{stated_limits}
use Rattle.ltl_hoa.specs.declared.marked.TheConstants.{MOST_SETS}
use Rattle.ltl_hoa.specs.MarkedView.{IsEdgeWithin}
use Rattle.ltl_check.specs.declared.graph.Step.{Step}
use Rattle.ltl_check.specs.declared.word_product.WordState.{WordState}
use Rattle.ltl_check.specs.Nets.{Net}
use Rattle.ltl_check.specs.Levels.{net_of}
use Rattle.ltl_check.specs.ProductView.{edge_from, edges_from}
use Rattle.ltl_check.specs.WordLetters.{letter_in}

-- all numbers of the automaton are below their counts
pub record IsInside (A : MarkedAutomaton) : Type 0 where
  pub counted : length A.edges ≡ A.states
  pub begins : A.start < A.states
  pub few_states : A.states ≤ stated_limits.hoa_states
  pub few_sets : A.sets ≤ MOST_SETS
  pub within : All (λ es. All (IsEdgeWithin (length A.names) A.states A.sets) es) A.edges

module _ (A : MarkedAutomaton) (letters : List (List ℕ)) (stem : ℕ) where
  -- state and position are below their counts
  abbrev pub IsWordState : WordState → Type 0
  IsWordState s = (s.state < A.states) × (s.position < length letters)

  abbrev pub word_count : ℕ
  word_count = length letters * A.states

  -- the number of a state of the product, and the state of a number
  abbrev pub word_number : WordState → ℕ
  word_number s = s.position * A.states + s.state

  abbrev pub word_state : ℕ → WordState
  word_state n = record { state = n % A.states; position = n / A.states }

  abbrev pub word_start : WordState
  word_start = record { state = A.start; position = 0 }

  abbrev pub word_edges : WordState → ℕ
  word_edges s = length (edges_from A s.state)

  -- the next position
  abbrev pub position_after : ℕ → ℕ
  position_after i = if nat_lt (i + 1) (length letters) then i + 1 else stem

  -- the step along an edge
  abbrev pub step_along : WordState → Edge → Step WordState
  step_along s e = record { target = record { state = e.target; position = position_after s.position }; marks = e.marks; letter = letter_in letters s.position }

  -- the step along an edge, unless the letter contradicts its label
  abbrev pub step_by : WordState → Edge → Option (Step WordState)
  step_by s e = if allows (λ p. has nat_cmp p (letter_in letters s.position)) e.cube then Some (step_along s e) else None

  abbrev pub word_step : WordState → ℕ → Option (Step WordState)
  word_step s k = step_by s (edge_from A s.state k)

  -- the graph, by the numbers of its states
  abbrev pub word_net : Net
  word_net = net_of word_count word_start word_number word_state word_edges word_step
