use Rattle.std.proofs.Common.{◌≡◌, ℕ, ◌<◌, ◌≤◌, true, length}
use Rattle.ltl_spec.proofs.Formulas.GrammarMachine as machine
use Rattle.ltl_syntax.specs.FormulaView.{trees, whole_tree}
use Rattle.ltl_syntax.specs.CanonicalWork.{HasOperands}
use Rattle.ltl_syntax.specs.ParserView.{AreBelow, AreUsedOnce, frames_of}
use Rattle.ltl_syntax.proofs.parser.close.Given as goal

abbrev pub invariant-closing : goal.invariant-closing
invariant-closing g l = record {
  some : 0 < length l.nodes.items;
  pending : AreBelow (length l.nodes.items) l.frames.items;
  same : machine.close l.most (whole_tree l.nodes.items) (frames_of (trees l.nodes.items) l.frames.items)
      ≡ machine.close l.most (whole_tree l.fn.nodes.items) (frames_of (trees l.fn.nodes.items) l.fn.frames.items);
  operands : (count : ℕ) → HasOperands count l.fn.nodes.items → HasOperands count l.nodes.items;
  once : AreUsedOnce l.fn.nodes.items l.fn.frames.items true → AreUsedOnce l.nodes.items l.frames.items true;
  longer : length l.fn.nodes.items ≤ length l.nodes.items;
}

abbrev pub decreases-closing : goal.decreases-closing
decreases-closing g l = length l.frames.items
