use Rattle.std.proofs.Common.{ap}
use Rattle.std.specs.Fmt.{decimal}
use Rattle.ltl_streams.proofs.PrintLaws.{prints_as, prints_then}
use Rattle.ltl_text.proofs.hoa.put_head.Goals as goal

pub returns : goal.returns
returns g c =
    let names = prints_then (prints_as (ap decimal c.name_count.ensures) c.put_number-2.ensures) c.put_names.ensures in
    let counts = prints_then c.put-3.ensures (prints_then c.put_number.ensures (prints_then c.put-4.ensures names)) in
    prints_then c.put.ensures (prints_then (prints_as c.text.ensures c.put-2.ensures) counts)
