use Rattle.std.proofs.Common.{length}
use Rattle.ltl_check.proofs.ShrunkLaws.{shrunk_within}
use Rattle.ltl_check.proofs.shrinking.Shrinking.word.Goals as goal

pub new-requires-clause-within : goal.new-requires-clause-within
new-requires-clause-within g c =
    shrunk_within c.args.self.now.old.items c.args.draft.now.letters.items c.deref.result.now c.deref-2.result.now c.args.draft.now.stem (length c.args.self.now.names.now) c.args.self.now.within c.requires.letters c.deref.ensures.value
    c.deref-2.ensures.value
