use Rattle.std.proofs.lemmas.Nat.{xor_lt}
use Rattle.ltl_word.proofs.BitLemmas.{one_and, one_or, one_implies, one_iff}
use Rattle.ltl_word.proofs.machine_word.Junction.word.Goals as goal

pub returns-in-And : goal.returns-in-And
returns-in-And c = rw c.in-And.is (λ k l. one_and c.args.left c.args.right k)

pub returns-in-Or : goal.returns-in-Or
returns-in-Or c = rw c.in-Or.is (λ k l. one_or c.args.left c.args.right k)

pub returns-in-Implies : goal.returns-in-Implies
returns-in-Implies c = rw c.in-Implies.is (λ k l. one_implies c.args.left c.args.right k c.ranges.left.fits l)

pub returns-in-Iff : goal.returns-in-Iff
returns-in-Iff c = rw c.in-Iff.is (λ k l. one_iff c.args.left c.args.right k (xor_lt 64 c.args.left c.args.right c.ranges.left.fits c.ranges.right.fits) l)
