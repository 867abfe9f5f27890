use Rattle.std.proofs.Common.{rules, sym}
use Rattle.ltl_syntax.specs.FormulaView.{reading_of}
use Rattle.ltl_streams.proofs.PrintLaws.{printed_err, printed_ok, prints_as, prints_then}
use Rattle.ltl_text.proofs.HoaLaws.{hoa_pieces}
use Rattle.ltl_text.proofs.hoa.put_hoa.Goals as goal

pub returns-clause-ok : goal.returns-clause-ok
returns-clause-ok g c =
    let e = hoa_pieces c.args.automaton.now (reading_of c.args.formula.now) c.len.result c.len.ensures.count in
    let all = prints_as (sym e) (prints_then c.put_head.ensures (prints_then c.put.ensures (prints_then c.put_states.ensures c.put-2.ensures))) in
    printed_ok c.new-output.ensures.whole c.new-output.ensures.empty c.new-output.ensures.now all _ c.end.ensures.ends (search rules)

pub returns-clause-err : goal.returns-clause-err
returns-clause-err g c =
    let e = hoa_pieces c.args.automaton.now (reading_of c.args.formula.now) c.len.result c.len.ensures.count in
    let all = prints_as (sym e) (prints_then c.put_head.ensures (prints_then c.put.ensures (prints_then c.put_states.ensures c.put-2.ensures))) in
    printed_err c.new-output.ensures.whole c.new-output.ensures.empty c.new-output.ensures.now all _ c.end.ensures.ends (search rules)
