-- The bounds of an automaton that was constructed within limits.
use Rattle.std.specs.Prelude.{ℕ, ◌<◌, ◌≤◌, length, sum_by, All}
use Rattle.ltl_spec.specs.Automata.Automaton.{Automaton}

-- there is a state, and at most so many states and edges, which lead to states
pub record IsBounded (most_states most_edges : ℕ) (B : Automaton) : Type 0 where
  pub some : 0 < length B.states
  pub few_states : length B.states ≤ most_states
  pub few_edges : sum_by (λ s. length s.edges) B.states ≤ most_edges
  pub within : All (λ s. All (λ e. e.target < length B.states) s.edges) B.states
