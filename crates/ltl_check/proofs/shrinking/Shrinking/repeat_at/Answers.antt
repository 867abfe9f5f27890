use Rattle.std.proofs.Common.{arith, ◌-◌}
use Rattle.ltl_check.proofs.ShrunkLaws.{no_more_with, of_letter, put_long, with_long}
use Rattle.ltl_check.proofs.shrinking.Shrinking.repeat_at.Goals as goal

pub put-requires-clause-candidate : goal.put-requires-clause-candidate
put-requires-clause-candidate g c =
    let h = c.requires.inside in
    no_more_with c.args.self.now.old.items c.args.draft.now.letters.items c.in_ok-candidate.candidate.letters.items c.args.at c.index.result.now h.1
    (of_letter c.args.self.now.old.items c.args.draft.now.letters.items (c.args.at - 1) c.index.result.now c.requires.shrunk.kept (omega arith) c.index.ensures) c.requires.shrunk.kept c.in_ok-candidate.ensures.letters

pub returns-clause-long : goal.returns-clause-long
returns-clause-long g c =
    let h = c.requires.inside in
    put_long c.put.result c.in_ok-put.field-0 c.args.draft.now.letters.items _ c.in_ok-candidate.candidate.letters.items c.in_ok-put.was c.put.ensures.put c.put.ensures.kept
    (with_long c.args.draft.now.letters.items c.in_ok-candidate.candidate.letters.items c.args.at c.index.result.now h.1 c.in_ok-candidate.ensures.letters)
