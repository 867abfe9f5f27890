use Rattle.std.proofs.Common.{◌∙◌, sym}
use Rattle.ltl_word.proofs.BitLemmas.{bit_more, others_more, bit_less, others_less}
use Rattle.ltl_word.proofs.machine_word.with_bit.Goals as goal

pub returns-then-value-clause-here : goal.returns-then-value-clause-here
returns-then-value-clause-here c = bit_more c.args.word c.args.place c.requires ∙ sym c.if-value.true

pub returns-then-value-clause-others : goal.returns-then-value-clause-others
returns-then-value-clause-others c = λ k l d. others_more c.args.word c.args.place k c.requires d

pub returns-else-value-clause-here : goal.returns-else-value-clause-here
returns-else-value-clause-here c = bit_less c.args.word c.args.place c.requires ∙ sym c.if-value.false

pub returns-else-value-clause-others : goal.returns-else-value-clause-others
returns-else-value-clause-others c = λ k l d. others_less c.args.word c.args.place k c.requires l d
