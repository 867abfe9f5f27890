use Rattle.std.proofs.Common.{◌≡◌, true, false}
use Rattle.ltl_word.proofs.BitLemmas.{all_alike}
use Rattle.ltl_word.proofs.bits.Bits.all.Goals.{then-value, else-value}
use Rattle.ltl_word.proofs.bits.Bits.all.Goals as goal

pub returns-clause-same : goal.returns-clause-same
returns-clause-same g c = λ i l. all_alike c.loop.counter i c.args.value c.if-value.word c.loop.words.items c.loop.invariant.alike
    (elim c.if-value.branch as (λ b. c.args.value ≡ true → c.if-value.word ≡ 18446744073709551615) [ then-value w ↦ λ e. w.word-is | else-value w ↦ λ e. cc ])
    (elim c.if-value.branch as (λ b. c.args.value ≡ false → c.if-value.word ≡ 0) [ then-value w ↦ λ e. cc | else-value w ↦ λ e. w.word-is ])
    l
