use Rattle.std.proofs.Common.{map, take}
use Rattle.ltl_claim.specs.ProgramView.{label_of}
use Rattle.ltl_claim.specs.ResolveView.{AreMarks}
use Rattle.ltl_claim.proofs.resolve.accepting.Given as goal

abbrev pub invariant-labels : goal.invariant-labels
invariant-labels g l = AreMarks (map (label_of (λ n. n.now)) (take l.i l.labels.entries)) l.count l.marks.items
