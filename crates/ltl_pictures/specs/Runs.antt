-- Accepting runs of an automaton on a lasso word, by the indices of their edges.
use Rattle.std.specs.Prelude.{◌≡◌, ◌≢◌, ℕ, ◌+◌, ◌*◌, ◌<◌, IsTrue, List, [], ◌∷◌, ◌++◌, length, slice_index_or, Option, Some, None}
use Rattle.ltl_spec.specs.Collections.Sets.{Has}
use Rattle.ltl_spec.specs.Semantics.Word.{Lasso, is_true_at, next}
use Rattle.ltl_spec.specs.Transitions.Cubes.{allows}
use Rattle.ltl_spec.specs.Automata.Automaton.{Edge}
use Rattle.ltl_spec.specs.Hoa.HoaReading.{MarkedAutomaton}
use Rattle.ltl_spec.specs.Checking.Check.{MarkedAccepts}
use Rattle.ltl_word.specs.LassoView.{size}
use Rattle.ltl_pictures.specs.declared.pick.Pick.{Pick}
use Rattle.ltl_pictures.specs.Edges.{edges_at}

module _ (A : MarkedAutomaton) (w : Lasso) where
  -- the edge of a pick
  abbrev pub edge_of_pick : Pick → Edge
  edge_of_pick q = slice_index_or (edges_at A q.state) q.place (record { cube = []; target = 0; marks = [] })

  -- The edges lead from state s at position i of the word to state t at position j: each leaves the state that the one before it enters, and the letter at
  -- its position satisfies its label
  abbrev pub IsRun : ℕ → ℕ → List Pick → ℕ → ℕ → Type 0
  IsRun s i [] t j = (s ≡ t) × (i ≡ j)
  IsRun s i (q ∷ qs) t j =
      (q.state ≡ s) × (q.place < length (edges_at A q.state)) × IsTrue (allows (is_true_at A.names w i) (edge_of_pick q).cube)
      × IsRun (edge_of_pick q).target (next w i) qs t j

  -- a path from the initial state, followed by a nonempty cycle in the product that has an edge of every acceptance set
  pub record IsAcceptingRun (run : List Pick) : Type 0 where
    pub prefix : List Pick
    pub cycle : List Pick
    pub state : ℕ
    pub position : ℕ
    pub whole : run ≡ prefix ++ cycle
    pub arrives : IsRun A.start 0 prefix state position
    pub cycles : IsRun state position cycle state position
    pub moves : cycle ≢ []
    pub marks : (k : ℕ) → k < A.sets → (q : Pick) × Has cycle q × Has (edge_of_pick q).marks k

  -- the run is accepting, or there is none and the automaton doesn't accept the word
  abbrev pub IsRunOf : Option (List Pick) → Type 0
  IsRunOf (Some run) = IsAcceptingRun run
  IsRunOf None = ¬ (MarkedAccepts A w)

  -- the number of product states on all levels of the acceptance sets
  abbrev pub run_size : ℕ
  run_size = A.states * size w * (A.sets + 1)
