use Rattle.std.proofs.Common.{rules, sym}
use Rattle.ltl_syntax.specs.FormulaView.{reading_of}
use Rattle.ltl_streams.proofs.PrintLaws.{printed_err, printed_ok, prints_as, prints_then}
use Rattle.ltl_text.proofs.BlockLaws.{claim_pieces}
use Rattle.ltl_text.proofs.claim.put_claim.Goals as goal

pub returns-clause-ok : goal.returns-clause-ok
returns-clause-ok g c =
    let e = claim_pieces c.args.automaton.now (reading_of c.args.formula.now) in
    let blocks = rw c.new-texts.ensures at c.put_blocks.ensures in
    let rest = prints_then (prints_as c.text.ensures c.put-2.ensures) (prints_then c.put-3.ensures (prints_then blocks c.put-4.ensures)) in
    printed_ok c.new-output.ensures.whole c.new-output.ensures.empty c.new-output.ensures.now (prints_as (sym e) (prints_then c.put.ensures rest)) _ c.end.ensures.ends (search rules)

pub returns-clause-err : goal.returns-clause-err
returns-clause-err g c =
    let e = claim_pieces c.args.automaton.now (reading_of c.args.formula.now) in
    let blocks = rw c.new-texts.ensures at c.put_blocks.ensures in
    let rest = prints_then (prints_as c.text.ensures c.put-2.ensures) (prints_then c.put-3.ensures (prints_then blocks c.put-4.ensures)) in
    printed_err c.new-output.ensures.whole c.new-output.ensures.empty c.new-output.ensures.now (prints_as (sym e) (prints_then c.put.ensures rest)) _ c.end.ensures.ends (search rules)
