-- The edges of the steps of a walk along a word.
use Rattle.std.specs.Prelude.{◌≡◌, ℕ, ◌%◌, List, ◌++◌, map}
use Rattle.ltl_spec.specs.Hoa.HoaReading.{MarkedAutomaton}
use Rattle.ltl_check.specs.declared.walk.Taken.{Taken}
use Rattle.ltl_check.specs.Levels.{IsFullWalk}
use Rattle.ltl_check.specs.WordView.{word_net}
use Rattle.ltl_pictures.specs.declared.pick.Pick.{Pick}

-- the edge of a step, if the automaton has this many states
abbrev pub pick_of : ℕ → Taken → Pick
pick_of states t = record { state = t.state % states; place = t.pick }

abbrev pub picks_of : ℕ → List Taken → List Taken → List Pick
picks_of states prefix cycle = map (pick_of states) prefix ++ map (pick_of states) cycle

-- a walk of the automaton along the word of these letters, of which so many are the stem
abbrev pub IsFullRun : MarkedAutomaton → List (List ℕ) → ℕ → List Taken → List Taken → Type 0
IsFullRun A letters stem prefix cycle = IsFullWalk (word_net A letters stem) A.sets prefix cycle

-- the edges of an accepting run: its prefix, then its cycle
abbrev pub IsFoundRun : MarkedAutomaton → List (List ℕ) → ℕ → List Pick → Type 0
IsFoundRun A letters stem run = (prefix : List Taken) × (cycle : List Taken) × IsFullRun A letters stem prefix cycle × (run ≡ picks_of A.states prefix cycle)
