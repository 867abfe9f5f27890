use Rattle.std.proofs.Common.{◌≡◌, length, take}
use Rattle.ltl_cli.specs.Translations.{shown_in}
use Rattle.ltl_c.specs.Arrays.{edge_rows, put_over, state_rows}
use Rattle.ltl_c.proofs.arrays.put_states.Given as goal

abbrev pub invariant-loop-k : goal.invariant-loop-k
invariant-loop-k g l = record {
  at : l.at ≡ length (edge_rows (take l.k (shown_in l.automaton).states));
  states : l.states ≡ put_over (state_rows (take l.k (shown_in l.automaton).states)) l.fn.states;
  edges : l.edges ≡ put_over (edge_rows (take l.k (shown_in l.automaton).states)) l.fn.edges;
}
