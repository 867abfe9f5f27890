use Rattle.std.proofs.Common.{◌≡◌, ◌+◌, ◌++◌, drop, length, map}
use Rattle.ltl_syntax.specs.CombinationView.{moved, moved_nodes, number_among}
use Rattle.ltl_syntax.proofs.combining.put_nodes.Given as goal

abbrev pub invariant-copying : goal.invariant-copying
invariant-copying g l = record {
  count : length l.nodes.items ≡ l.base + l.i;
  first : l.base ≡ length l.fn.nodes.items;
  put : l.nodes.items ++ map (moved l.base (number_among (map (λ k. k.now) l.names.keys) l.formula.names)) (drop l.i l.formula.nodes)
      ≡ l.fn.nodes.items ++ moved_nodes l.base (map (λ k. k.now) l.names.keys) l.formula;
}
