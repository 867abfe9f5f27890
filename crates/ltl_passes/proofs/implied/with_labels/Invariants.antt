use Rattle.std.proofs.Common.{◌≡◌, map, take}
use Rattle.std.specs.Prelude.{All}
use Rattle.ltl_automaton.specs.CodedEdges.{labelled_edge_of}
use Rattle.ltl_passes.specs.Runs.{code_of, run_edge}
use Rattle.ltl_passes.proofs.implied.with_labels.Given as goal

abbrev pub invariant-loop-edge : goal.invariant-loop-edge
invariant-loop-edge g l = record {
  codes : map code_of l.order.items ≡ take l.edge-index l.edges;
  labelled : All (λ k. run_edge k ≡ labelled_edge_of l.labels (code_of k)) l.order.items;
}
