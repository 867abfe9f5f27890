use Rattle.std.proofs.Common.{◌≡◌, ◌≤◌, length, map}
use Rattle.ltl_check.specs.declared.accepting.TheConstants.{SHRINKING_LIMIT}
use Rattle.ltl_check.specs.Shrunk.{IsShrunk}
use Rattle.ltl_check.proofs.shrinking.Shrinking.take_out_all.Given as goal

abbrev pub invariant-loop-p : goal.invariant-loop-p
invariant-loop-p g l = record {
  shrunk : IsShrunk (g.F.Operand.automaton_of l.self.first.now) l.self.formula.now.names l.self.ba.now (map (λ n. n.now) l.self.names.now) l.self.old.items l.draft.letters.items l.draft.stem;
  few : l.looks.count ≤ SHRINKING_LIMIT;
}

abbrev pub invariant-loop-at : goal.invariant-loop-at
invariant-loop-at g l = record {
  shrunk : IsShrunk (g.F.Operand.automaton_of l.self.first.now) l.self.formula.now.names l.self.ba.now (map (λ n. n.now) l.self.names.now) l.self.old.items l.draft.letters.items l.draft.stem;
  few : l.looks.count ≤ SHRINKING_LIMIT;
  long : l.at-end ≡ length l.draft.letters.items;
}
