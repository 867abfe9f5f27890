use Rattle.ltl_pictures.proofs.FlagLaws.{are_shown}
use Rattle.ltl_pictures.proofs.laws.each_edge_is_shown.Goals as goal

pub returns : goal.returns
returns c = λ picks A k. are_shown picks A k
