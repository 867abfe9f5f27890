-- A verdict of the code as one of the definitions, the letters along a path, and bounds on the number of looks.
use Rattle.std.specs.Prelude.{◌≡◌, ℕ, ◌+◌, ◌*◌, ◌/◌, ◌%◌, ◌<◌, ◌≤◌, Bool, cond, List, map, length, sum_by, ⊤}
use Rattle.ltl_spec.specs.Semantics.Word.{Name, Lasso}
use Rattle.ltl_spec.specs.Automata.Automaton.{Automaton, Edge}
use Rattle.ltl_spec.specs.Hoa.HoaReading.{MarkedAutomaton}
use Rattle.ltl_spec.specs.Checking.Search.{IsLevelPath}
use Rattle.ltl_spec.specs.Checking.Searched.{searched_graph, searched_start, HasCommonWalk, printed_word}
use Rattle.ltl_spec.specs.Checking.Check as spec
use Rattle.ltl_check.specs.declared.verdict.Outcome.{Outcome}
use Rattle.ltl_check.specs.declared.verdict.Outcome.TheVariants.{Contained, Violated}
use Rattle.ltl_check.specs.declared.walk.Taken.{Taken}
use Rattle.ltl_check.specs.Explored.{sum_below}
use Rattle.ltl_check.specs.ProductView.{edge_pairs, pair_at}

abbrev pub verdict_of : {A : Type 0} → Outcome A → spec.Verdict
verdict_of Contained = spec.Contained
verdict_of (Violated w) = spec.Violated w

-- the verdict is right on the words that both automata accept
abbrev pub IsVerdictOn : MarkedAutomaton → List Name → Automaton → spec.Verdict → Type 0
IsVerdictOn A names B v = spec.IsVerdict A names B (spec.IsCommon A names B) v

-- how many letters are written
abbrev pub letters_in : Lasso → ℕ
letters_in w = length w.stem + length w.cycle

-- the word has no more letters than any walk that both automata have in common has edges
abbrev pub IsShortestOn : MarkedAutomaton → List Name → Automaton → spec.Verdict → Type 0
IsShortestOn A names B spec.Contained = ⊤
IsShortestOn A names B (spec.Violated w) = (h : HasCommonWalk A names B) → letters_in w ≤ length h.stem + length h.cycle

-- So many looks were made for a shorter word: no more than the first search and the second one may make. If they are fewer than the first one may make, the word
-- is a shortest one
abbrev pub IsBriefOn : MarkedAutomaton → List Name → Automaton → ℕ → ℕ → ℕ → spec.Verdict → Type 0
IsBriefOn A names B most more looks v = (looks ≤ most + more) × (looks < most → IsShortestOn A names B v)

-- the word has no more letters than the least form of the word along a common walk of so many edges
abbrev pub IsNoLongerOn : MarkedAutomaton → List Name → Automaton → ℕ → spec.Verdict → Type 0
IsNoLongerOn A names B edges spec.Contained = edges ≡ 0
IsNoLongerOn A names B edges (spec.Violated w) =
    (h : HasCommonWalk A names B) × (length h.stem + length h.cycle ≡ edges) × (letters_in w ≤ letters_in (printed_word A names h.stem h.cycle))

abbrev pub letters_of : List Taken → List (List ℕ)
letters_of steps = map (λ t. t.letter) steps

-- The states of a product on levels are numbered by the state, and then by the level. Some path leads to the one with this number
abbrev pub IsReachedLevelState : MarkedAutomaton → List Name → Automaton → ℕ → Type 0
IsReachedLevelState A names B n =
    (stem : List Edge) × IsLevelPath (searched_graph A names B) (record { state = searched_start A names B; level = 0 }) stem (record { state = n / (A.sets + 2); level = n % (A.sets + 2) })

-- the pairs of edges, one of each side, on all levels
abbrev pub level_pairs : MarkedAutomaton → Automaton → ℕ
level_pairs A B = (A.sets + 2) * (sum_by length A.edges * sum_by (λ s. length s.edges) B.states)

-- the pairs of edges that leave the first so many states on levels, of those that are chosen
abbrev pub chosen_pairs : MarkedAutomaton → Automaton → (ℕ → Bool) → ℕ → ℕ
chosen_pairs A B chosen count = sum_below (λ n. cond (chosen n) (edge_pairs A B (pair_at A B (n / (A.sets + 2)))) 0) count
