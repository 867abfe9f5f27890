use Rattle.std.proofs.Common.{ap, sym, string_bytes}
use Rattle.std.specs.Fmt.{decimal}
use Rattle.ltl_spec.proofs.Collections.MemberLaws.{map_length}
use Rattle.ltl_streams.proofs.PrintLaws.{prints_as, prints_then}
use Rattle.ltl_text.proofs.named.put_unnamed.Goals as goal

pub returns : goal.returns
returns g c =
    let names = prints_then (prints_as (ap decimal (sym (map_length string_bytes c.args.names.now))) c.put_number-2.ensures) c.put_quoted.ensures in
    prints_then c.put.ensures (prints_then c.put_number.ensures (prints_then c.put-2.ensures names))
