use Rattle.std.proofs.Common.{ap, ◌∙◌, length}
use Rattle.ltl_spec.proofs.Collections.MemberLaws.{map_length}
use Rattle.ltl_check.specs.Shrunk.{bare}
use Rattle.ltl_check.proofs.ShrunkLaws.{no_more_bare}
use Rattle.ltl_check.proofs.shrinking.Shrinking.take_out.Goals as goal

pub put_short-requires-clause-candidate : goal.put_short-requires-clause-candidate
put_short-requires-clause-candidate g c =
    no_more_bare c.args.self.now.old.items c.args.draft.now.letters.items c.in_ok-candidate.candidate.letters.items c.args.p c.requires.shrunk.kept c.in_ok-candidate.ensures.letters

pub put_short-requires-clause-same : goal.put_short-requires-clause-same
put_short-requires-clause-same g c = ap length c.in_ok-candidate.ensures.letters ∙ map_length (bare c.args.p) c.args.draft.now.letters.items
