use Rattle.ltl_check.proofs.ShrunkLaws.{put_long}
use Rattle.ltl_check.proofs.shrinking.Shrinking.put_short.Goals as goal

pub returns-clause-long : goal.returns-clause-long
returns-clause-long g c =
    put_long c.put.result c.in_ok-put.field-0 c.args.draft.now.letters.items _ c.args.candidate.letters.items c.in_ok-put.was c.put.ensures.put c.put.ensures.kept c.requires.same
