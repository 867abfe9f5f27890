use Rattle.std.proofs.Common.{arith, refl}
use Rattle.ltl_sets.proofs.LaneLaws.{IsLowest-words, LosesBit-words}
use Rattle.ltl_sets.proofs.lanes.take_from.Goals as goal

pub returns-clause-lowest : goal.returns-clause-lowest
returns-clause-lowest c = IsLowest-words c.args.words.now c.args.at (omega arith) (omega arith) (omega arith) c.requires.zeros

pub returns-clause-rest : goal.returns-clause-rest
returns-clause-rest c = LosesBit-words c.args.words.now c.args.at (omega arith) (omega arith) (omega arith) (omega arith) _ refl
