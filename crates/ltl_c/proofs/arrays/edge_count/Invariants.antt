use Rattle.std.proofs.Common.{◌≡◌, length, take}
use Rattle.ltl_cli.specs.Translations.{shown_in}
use Rattle.ltl_c.specs.Arrays.{edge_rows}
use Rattle.ltl_c.proofs.arrays.edge_count.Given as goal

abbrev pub invariant-loop-k : goal.invariant-loop-k
invariant-loop-k g l = l.count ≡ length (edge_rows (take l.k (shown_in l.automaton).states))
