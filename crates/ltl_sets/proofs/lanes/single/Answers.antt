use Rattle.std.proofs.Common.{◌∷◌, []}
use Rattle.ltl_sets.proofs.LaneLaws.{bit_in-alone}
use Rattle.ltl_sets.proofs.lanes.single.Goals as goal

pub returns-clause-alone : goal.returns-clause-alone
returns-clause-alone c =
    bit_in-alone c.args.i _ (λ k. c.word_alone.ensures k ∷ c.word_alone-2.ensures k ∷ c.word_alone-3.ensures k ∷ c.word_alone-4.ensures k ∷ [])
