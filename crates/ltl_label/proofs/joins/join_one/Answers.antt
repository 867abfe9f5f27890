use Rattle.std.proofs.Common.{arith}
use Rattle.std.proofs.lemmas.Grind.{common_steps}
use Rattle.std.proofs.lemmas.List.Elements.{filter_map-append}
use Rattle.ltl_label.proofs.joins.join_one.Goals as goal

pub right-preserved : goal.right-preserved
right-preserved g c = grind (arith, common_steps, filter_map-append)
