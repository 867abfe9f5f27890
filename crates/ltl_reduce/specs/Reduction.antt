-- What a reduction of an automaton is: the same words, and no more states and edges.
use Rattle.std.specs.Prelude.{◌≡◌, ℕ, ◌<◌, ◌≤◌, ◌↔◌, List, length, sum_by}
use Rattle.ltl_spec.specs.Semantics.Word.{Name, Lasso}
use Rattle.ltl_spec.specs.Automata.Automaton.{Automaton, Accepts, AcceptsFrom}
use Rattle.ltl_spec.specs.Checking.Bounds.{HasNamesBelow}

-- A accepts a word from this state exactly if B accepts it, whatever the names of the propositions
abbrev pub AcceptsSame : Automaton → ℕ → Automaton → Type 0
AcceptsSame A start B = (names : List Name) (w : Lasso) → 0 < length w.cycle → AcceptsFrom start names A w ↔ Accepts names B w

-- the number of edges
abbrev pub edge_count : Automaton → ℕ
edge_count A = sum_by (λ s. length s.edges) A.states

-- B accepts what A accepts from this state. It has the same sets, and no more states, edges and propositions
pub record IsReductionOf (A : Automaton) (start : ℕ) (B : Automaton) : Type 0 where
  pub same : AcceptsSame A start B
  pub sets : B.sets ≡ A.sets
  pub states : length B.states ≤ length A.states
  pub edges : edge_count B ≤ edge_count A
  pub names : (n : ℕ) → HasNamesBelow n A → HasNamesBelow n B
