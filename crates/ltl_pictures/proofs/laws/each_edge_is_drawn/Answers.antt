use Rattle.ltl_pictures.proofs.DrawnLaws.{are_drawn}
use Rattle.ltl_pictures.proofs.laws.each_edge_is_drawn.Goals as goal

pub returns : goal.returns
returns c = are_drawn
