-- A reduction of an automaton that was read.
use Rattle.std.specs.Prelude.{◌≡◌, ◌<◌, ◌≤◌, ◌↔◌, length, sum_by}
use Rattle.ltl_spec.specs.Semantics.Word.{Lasso}
use Rattle.ltl_spec.specs.Checking.Check.{MarkedAccepts}
use Rattle.ltl_spec.specs.Hoa.HoaReading.{MarkedAutomaton}

-- the second automaton accepts the words that the first one accepts. It has the same propositions, and no more sets, states and edges
pub record IsReduced (A B : MarkedAutomaton) : Type 0 where
  pub same : (w : Lasso) → 0 < length w.cycle → MarkedAccepts A w ↔ MarkedAccepts B w
  pub names : B.names ≡ A.names
  pub sets : B.sets ≤ A.sets
  pub states : B.states ≤ A.states
  pub edges : sum_by length B.edges ≤ sum_by length A.edges
