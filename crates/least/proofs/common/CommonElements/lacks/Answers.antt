use Rattle.std.proofs.Common.{◌∙◌}
use Rattle.least.proofs.BlockLaws.{none_lacked}
use Rattle.least.proofs.common.CommonElements.lacks.Goals as goal

pub returns : goal.returns
returns c = c.empty.ensures ∙ none_lacked c.args._of.now
