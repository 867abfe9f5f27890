use Rattle.std.proofs.Common.{◌≤◌, ◌-◌, length, map}
use Rattle.ltl_check.specs.declared.accepting.TheConstants.{SHRINKING_LIMIT}
use Rattle.ltl_check.specs.Shrunk.{IsShrunk}
use Rattle.ltl_check.proofs.shrinking.Shrinking.leave_out.Given as goal

abbrev pub invariant-blocks-2 : goal.invariant-blocks-2
invariant-blocks-2 g l = record {
  shrunk : IsShrunk (g.F.Operand.automaton_of l.self.first.now) l.self.formula.now.names l.self.ba.now (map (λ n. n.now) l.self.names.now) l.self.old.items l.draft.letters.items l.draft.stem;
  few : l.looks.count ≤ SHRINKING_LIMIT;
}

abbrev pub decreases-blocks-2 : goal.decreases-blocks-2
decreases-blocks-2 g l = length l.draft.letters.items - l.at
