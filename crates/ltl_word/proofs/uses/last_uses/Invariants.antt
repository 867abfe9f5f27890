use Rattle.std.proofs.Common.{◌≡◌, ◌<◌, ℕ, length, false}
use Rattle.std.specs.Prelude.{slice_index_or}
use Rattle.ltl_syntax.specs.declared.operators.Node.TheVariants.{Constant}
use Rattle.ltl_word.specs.Uses.{IsUsedAt}
use Rattle.ltl_word.proofs.uses.last_uses.Given as goal

abbrev pub invariant-loop : goal.invariant-loop
invariant-loop g l = record {
  long : length l.last_uses.items ≡ l.counter;
}

abbrev pub invariant-loop-i : goal.invariant-loop-i
invariant-loop-i g l = record {
  long : length l.last_uses.items ≡ length l.formula.nodes;
  used : (i : ℕ) → i < l.i → IsUsedAt l.last_uses.items i (slice_index_or l.formula.nodes i (Constant false));
}
