use Rattle.std.proofs.Common.{◌≡◌, map}
use Rattle.std.specs.Prelude.{replicate, []}
use Rattle.ltl_hoa.specs.MarkedView.{edge_of}
use Rattle.ltl_hoa.proofs.body.no_edges.Given as goal

abbrev pub invariant-states : goal.invariant-states
invariant-states g l = map (λ s. map edge_of s.items) l.edges.items ≡ replicate l._k []
