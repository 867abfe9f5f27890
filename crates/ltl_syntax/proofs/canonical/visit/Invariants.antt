use Rattle.std.proofs.Common.{◌≡◌, ◌<◌, ◌≤◌, ◌++◌, length, map, string_bytes}
use Rattle.ltl_syntax.specs.declared.canonical.Task.TheVariants.{Visit}
use Rattle.ltl_syntax.specs.FormulaView.{trees}
use Rattle.ltl_syntax.specs.CanonicalWork.{weight, work_text}
use Rattle.ltl_syntax.proofs.canonical.visit.Given as goal

abbrev pub invariant-prefixes : goal.invariant-prefixes
invariant-prefixes g l = record {
  within : l.i < length l.nodes;
  text : l.text.items ++ work_text (map string_bytes l.names) (trees l.nodes) (Visit l.i)
      ≡ l.fn.text.items ++ work_text (map string_bytes l.names) (trees l.nodes) (Visit l.fn.i);
  stack : l.stack.items ≡ l.fn.stack.items;
  lighter : weight (trees l.nodes) (Visit l.i) ≤ weight (trees l.nodes) (Visit l.fn.i);
}

abbrev pub decreases-prefixes : goal.decreases-prefixes
decreases-prefixes g l = l.i
