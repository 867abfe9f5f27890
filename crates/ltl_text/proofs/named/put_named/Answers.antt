use Rattle.std.proofs.Common.{map, rules, string_bytes, sym}
use Rattle.ltl_streams.proofs.PrintLaws.{printed_err, printed_ok, prints_as, prints_then}
use Rattle.ltl_text.proofs.HoaLaws.{named_pieces}
use Rattle.ltl_text.proofs.named.put_named.Goals as goal

pub returns-clause-ok : goal.returns-clause-ok
returns-clause-ok g c =
    let e = named_pieces c.args.automaton.now (map string_bytes c.args.names.now) c.len.result c.len.ensures.count c.sets.result c.sets.ensures.count in
    let all = prints_as (sym e) (prints_then c.put_unnamed.ensures (prints_then c.put_condition.ensures (prints_then c.put_states.ensures c.put.ensures))) in
    printed_ok c.new-output.ensures.whole c.new-output.ensures.empty c.new-output.ensures.now all _ c.end.ensures.ends (search rules)

pub returns-clause-err : goal.returns-clause-err
returns-clause-err g c =
    let e = named_pieces c.args.automaton.now (map string_bytes c.args.names.now) c.len.result c.len.ensures.count c.sets.result c.sets.ensures.count in
    let all = prints_as (sym e) (prints_then c.put_unnamed.ensures (prints_then c.put_condition.ensures (prints_then c.put_states.ensures c.put.ensures))) in
    printed_err c.new-output.ensures.whole c.new-output.ensures.empty c.new-output.ensures.now all _ c.end.ensures.ends (search rules)
