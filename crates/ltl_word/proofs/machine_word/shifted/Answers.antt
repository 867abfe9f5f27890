use Rattle.std.proofs.Common.{◌∙◌, arith}
use Rattle.ltl_word.proofs.BitLemmas.{one_shr}
use Rattle.ltl_word.proofs.machine_word.shifted.Goals as goal

pub returns-clause-before : goal.returns-clause-before
returns-clause-before c = λ k l. c.with_bit.ensures.others k (omega (arith, l)) (λ e. omega (arith, l, e)) ∙ one_shr c.args.word 1 k
