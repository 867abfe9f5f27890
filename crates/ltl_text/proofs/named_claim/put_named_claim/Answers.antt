use Rattle.std.proofs.Common.{map, rules, string_bytes, sym}
use Rattle.ltl_streams.proofs.PrintLaws.{printed_err, printed_ok, prints_as, prints_then}
use Rattle.ltl_text.proofs.ClaimLaws.{named_pieces}
use Rattle.ltl_text.proofs.named_claim.put_named_claim.Goals as goal

pub returns-clause-ok : goal.returns-clause-ok
returns-clause-ok g c =
    let e = named_pieces c.args.automaton.now (map string_bytes c.args.names.now) in
    let blocks = rw c.new-texts.ensures at c.put_blocks.ensures in
    printed_ok c.new-output.ensures.whole c.new-output.ensures.empty c.new-output.ensures.now (prints_as (sym e) (prints_then c.put.ensures (prints_then blocks c.put-2.ensures))) _ c.end.ensures.ends (search rules)

pub returns-clause-err : goal.returns-clause-err
returns-clause-err g c =
    let e = named_pieces c.args.automaton.now (map string_bytes c.args.names.now) in
    let blocks = rw c.new-texts.ensures at c.put_blocks.ensures in
    printed_err c.new-output.ensures.whole c.new-output.ensures.empty c.new-output.ensures.now (prints_as (sym e) (prints_then c.put.ensures (prints_then blocks c.put-2.ensures))) _ c.end.ensures.ends (search rules)
