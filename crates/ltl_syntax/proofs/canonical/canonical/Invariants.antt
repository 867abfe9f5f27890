use Rattle.std.proofs.Common.{◌≡◌, ◌++◌, length, map, string_bytes}
use Rattle.std.specs.Prelude.{sum_by, All}
use Rattle.ltl_spec.specs.Formulas.Canonical.{formula_text}
use Rattle.ltl_syntax.specs.FormulaView.{trees, whole_tree}
use Rattle.ltl_syntax.specs.CanonicalWork.{Points, stack_text, weight}
use Rattle.ltl_syntax.proofs.canonical.canonical.Given as goal

abbrev pub invariant-work : goal.invariant-work
invariant-work g l = record {
  points : All (Points (length l.nodes)) l.stack.items;
  text : l.text.items ++ stack_text (map string_bytes l.names) (trees l.nodes) l.stack.items ≡ formula_text (map string_bytes l.names) (whole_tree l.nodes);
}

abbrev pub decreases-work : goal.decreases-work
decreases-work g l = sum_by (weight (trees l.nodes)) l.stack.items
