use Rattle.ltl_sets.proofs.TransposedLaws.{indices_are}
use Rattle.ltl_sets.proofs.transposed.indices_of.Goals as goal

pub returns : goal.returns
returns c = indices_are c.args.bytes.now c.args.i _ _ _ _ c.told-bytes c.word_of.ensures c.word_of-2.ensures c.word_of-3.ensures c.word_of-4.ensures
