use Rattle.std.proofs.Common.{arith}
use Rattle.ltl_check.proofs.ShrunkLaws.{no_more_without}
use Rattle.ltl_check.proofs.shrinking.Shrinking.leave_out_at.Goals as goal

pub put-requires-clause-candidate : goal.put-requires-clause-candidate
put-requires-clause-candidate g c =
    let s = c.end_of-end.ensures.some in
    no_more_without c.args.self.now.old.items c.args.draft.now.letters.items c.in_ok-candidate.candidate.letters.items c.args.at c.end_of-end.result (omega arith) c.end_of-end.ensures.within c.requires.shrunk.kept c.in_ok-candidate.ensures.letters
