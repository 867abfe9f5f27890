use Rattle.std.proofs.Common.{◌∙◌}
use Rattle.ltl_streams.proofs.PrintLaws.{prints_as, prints_then}
use Rattle.ltl_claims.proofs.message.put_fault.Goals as goal

pub returns : goal.returns
returns g c =
    let place = prints_then (prints_then (prints_then (prints_then c.put.ensures c.put_number.ensures) c.put-2.ensures) c.put_number-2.ensures) c.put-3.ensures in
    prints_then place (prints_as (c.as_bytes.ensures.value ∙ c.text.ensures.text) c.put-4.ensures)
