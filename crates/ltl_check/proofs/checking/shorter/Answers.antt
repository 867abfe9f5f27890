use Rattle.std.proofs.Common.{arith}
use Rattle.ltl_check.proofs.AlongLaws.{size_is}
use Rattle.ltl_check.proofs.checking.shorter.Goals as goal

pub returns-then-len-clause-second : goal.returns-then-len-clause-second
returns-then-len-clause-second g c = let a = size_is c.args.first in let b = size_is c.args.second in omega arith

pub returns-clause-first : goal.returns-clause-first
returns-clause-first g c = let a = size_is c.args.first in let b = size_is c.args.second in omega arith
