use Rattle.std.proofs.Common.{◌∙◌}
use Rattle.ltl_streams.proofs.PrintLaws.{prints_as, prints_then}
use Rattle.ltl_text.proofs.label.put_numbered.Goals as goal

pub returns : goal.returns
returns g c = prints_then c.put.ensures (prints_as (c.as_slice.ensures ∙ c.of.ensures) c.put-2.ensures)
