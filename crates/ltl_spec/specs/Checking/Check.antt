-- Whether every word that an automaton accepts satisfies a formula.
use Rattle.std.specs.Prelude.{◌≡◌, ℕ, ◌*◌, ◌+◌, true, IsTrue, ◌⊎◌, List, map, flat_map, length, slice_get, Some}
use Rattle.ltl_spec.specs.Collections.Sets.{Has}
use Rattle.ltl_spec.specs.Semantics.Word.{Name, Lasso, IsLasso}
use Rattle.ltl_spec.specs.Transitions.Cubes.{Literal, Cube}
use Rattle.ltl_spec.specs.Formulas.Formula.{Reading}
use Rattle.ltl_spec.specs.Semantics.Satisfaction.{Satisfies}
use Rattle.ltl_spec.specs.Automata.Automaton.{Automaton, Accepts, AcceptsFrom}
use Rattle.ltl_spec.specs.Hoa.HoaReading.{MarkedAutomaton}
use Rattle.ltl_spec.specs.Words.LassoText.{IsLeast, names_in}

-- the states and edges of an automaton with sets on its edges
abbrev pub graph_of : MarkedAutomaton → Automaton
graph_of A = record { sets = A.sets; states = map (λ es. record { accepting = true; edges = es }) A.edges }

-- the automaton accepts the word: a walk from its start leads to a closed walk with an edge of every set
abbrev pub MarkedAccepts : MarkedAutomaton → Lasso → Type 0
MarkedAccepts A w = AcceptsFrom A.start A.names (graph_of A) w

-- the name is positive in one of the cubes, whose propositions are these names
abbrev pub IsPositive : List Name → List Cube → Name → Type 0
IsPositive names cubes n = (c : Cube) × (l : Literal) × Has cubes c × Has c l × IsTrue l.positive × (slice_get names l.proposition ≡ Some n)

-- the cubes of all edges
abbrev pub marked_cubes : MarkedAutomaton → List Cube
marked_cubes A = flat_map (map (λ e. e.cube)) A.edges

abbrev pub cubes_of : Automaton → List Cube
cubes_of B = flat_map (λ s. map (λ e. e.cube) s.edges) B.states

-- no word that is looked for, or this one
pub data Verdict : Type 0 where
  Contained : Verdict
  Violated : Lasso → Verdict

-- The given automaton, and one of the words that are looked for, over these names
module _ (A : MarkedAutomaton) (names : List Name) (B : Automaton) where
  -- the name is true in no letter unless it is positive somewhere
  abbrev pub IsNeeded : Name → Type 0
  IsNeeded n = IsPositive A.names (marked_cubes A) n ⊎ IsPositive names (cubes_of B) n

  -- There is no such word, or this one is such a word in least form without needless names
  abbrev pub IsVerdict : (Lasso → Type 0) → Verdict → Type 0
  IsVerdict Found Contained = (w : Lasso) → IsLasso w → ¬ (Found w)
  IsVerdict Found (Violated w) = IsLasso w × Found w × IsLeast w × ((n : Name) → Has (names_in w) n → IsNeeded n)

  -- both accept the word
  abbrev pub IsCommon : Lasso → Type 0
  IsCommon w = MarkedAccepts A w × Accepts names B w

  -- how many states a search may meet: those of both, on each level of the sets and of one set more
  abbrev pub product_size : ℕ
  product_size = A.states * length B.states * (A.sets + 2)

-- the automaton accepts the word, which violates the formula
abbrev pub IsViolation : MarkedAutomaton → Reading → Lasso → Type 0
IsViolation A R w = MarkedAccepts A w × ¬ (Satisfies R.names w 0 R.formula)

-- no word that is accepted violates the formula
abbrev pub IsContained : MarkedAutomaton → Reading → Type 0
IsContained A R = (w : Lasso) → IsLasso w → ¬ (IsViolation A R w)
