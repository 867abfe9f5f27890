use Rattle.ltl_word.proofs.BitLemmas.{count_push}
use Rattle.ltl_word.proofs.SubformulaLaws.{one_row_more}
use Rattle.ltl_word.proofs.subformulas.subformula_rows.Goals as goal

pub loop-i-preserved : goal.loop-i-preserved
loop-i-preserved g c =
    let old = c.loop-i.rows.items in
    let pushed = c.in_ok-push.ensures.items in
    record {
      count = count_push old c.in_ok-row.row _ c.loop-i.i pushed c.loop-i.invariant.count;
      rows = one_row_more c.args.formula.now c.args.word.now old _ c.in_ok-row.row c.node.result c.loop-i.i c.len-i-end.ensures.formula c.loop-i.invariant.rows c.loop-i.invariant.count c.node.ensures.found c.in_ok-row.ensures pushed;
    }
