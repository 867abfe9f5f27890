-- A Büchi automaton with accepting states for an automaton that was read.
use Rattle.std.specs.Prelude.{◌+◌, ◌*◌, ◌<◌, ◌≤◌, ◌↔◌, false, length}
use Rattle.ltl_spec.specs.Semantics.Word.{Lasso}
use Rattle.ltl_spec.specs.Automata.Automaton.{Automaton, Accepts}
use Rattle.ltl_spec.specs.Checking.Check.{MarkedAccepts}
use Rattle.ltl_spec.specs.Construction.Levels.{HasTooManyLevelStates}
use Rattle.ltl_spec.specs.Construction.Merging.{merged_automaton}
use Rattle.ltl_spec.specs.Hoa.HoaPrinted.{marked_of}
use Rattle.ltl_spec.specs.Hoa.HoaReading.{MarkedAutomaton}
use Rattle.ltl_spec.specs.Tools.Limits.{stated_limits}
use Rattle.ltl_reduce.specs.Reduced.{IsReduced}

-- B accepts the words that A accepts, with the names of A
abbrev pub HasWordsOf : MarkedAutomaton → Automaton → Type 0
HasWordsOf A B = (w : Lasso) → 0 < length w.cycle → MarkedAccepts A w ↔ Accepts A.names B w

-- B has at most one state for each state of A and each number of its acceptance sets, from none to all
abbrev pub HasFewStates : MarkedAutomaton → Automaton → Type 0
HasFewStates A B = length B.states ≤ A.states * (A.sets + 1)

-- a reduction of A, merged, has too many copies on the levels of its sets
abbrev pub HasLargeReduction : MarkedAutomaton → Type 0
HasLargeReduction A =
    (G : Automaton) × IsReduced A (marked_of G A.names) × HasTooManyLevelStates (merged_automaton false false G) stated_limits.states stated_limits.edges
