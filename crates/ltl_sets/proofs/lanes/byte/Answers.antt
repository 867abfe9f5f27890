use Rattle.std.proofs.Common.{ap, ◌∙◌, ◌+◌, ◌*◌}
use Rattle.ltl_sets.specs.Words.{bit_in}
use Rattle.ltl_sets.proofs.LaneLaws.{byte_bit}
use Rattle.ltl_sets.proofs.lanes.byte.Goals as goal

pub returns : goal.returns
returns c i h = byte_bit c.as_array.result.now c.args.k i h ∙ ap (λ ws. bit_in ws (8 * c.args.k + i)) c.as_array.ensures
