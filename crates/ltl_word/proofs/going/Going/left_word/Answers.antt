use Rattle.ltl_word.proofs.BitLemmas.{ones_at}
use Rattle.ltl_word.proofs.going.Going.left_word.Goals as goal

pub returns-in-None : goal.returns-in-None
returns-in-None g c = rw c.in-None.is (λ j l. ones_at j l)
