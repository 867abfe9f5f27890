use Rattle.std.proofs.Common.{◌∙◌}
use Rattle.ltl_streams.proofs.PrintLaws.{prints_as, prints_nothing, prints_then}
use Rattle.ltl_cli.proofs.MessageLaws.{number_same}
use Rattle.ltl_cli.proofs.message.put_number.Goals as goal

pub returns-in-Some : goal.returns-in-Some
returns-in-Some g c = prints_as (number_same _ _ _ c.in-Some.is (c.as_slice.ensures ∙ c.of.ensures)) (prints_then c.put.ensures c.put-in-Some.ensures)

pub returns-in-None : goal.returns-in-None
returns-in-None g c = rw c.in-None.is (prints_nothing _)
