use Rattle.std.proofs.lemmas.Result.{IfOk-weaker}
use Rattle.ltl_word.proofs.RowLaws.{binary_answer, left_operand, right_operand, unary_answer, unary_operand}
use Rattle.ltl_word.proofs.evaluation.node_row.Goals as goal

pub returns-in-Unary : goal.returns-in-Unary
returns-in-Unary g c =
    let f = c.args.formula.now in
    let w = c.args.word.now in
    let names = c.args.names.now in
    let rows = c.args.rows.now in
    let op = c.in-Unary.operator in
    let a = c.in-Unary.a in
    let row = unary_operand f w names rows op a c.operand.result.now c.args.node c.in-Unary.is c.requires.rows c.operand.ensures in
    IfOk-weaker c.unary_row.result _ _ (λ bits u. unary_answer f w names rows op a c.operand.result.now bits c.args.node c.in-Unary.is row u) c.unary_row.ensures

pub returns-in-Binary : goal.returns-in-Binary
returns-in-Binary g c =
    let f = c.args.formula.now in
    let w = c.args.word.now in
    let names = c.args.names.now in
    let rows = c.args.rows.now in
    let op = c.in-Binary.operator in
    let a = c.in-Binary.a in
    let b = c.in-Binary.b in
    let left = left_operand f w names rows op a b c.operand-left.result.now c.args.node c.in-Binary.is c.requires.rows c.operand-left.ensures in
    let right = right_operand f w names rows op a b c.operand-in-Binary.result.now c.args.node c.in-Binary.is c.requires.rows c.operand-in-Binary.ensures in
    IfOk-weaker c.binary_row.result _ _ (λ bits u. binary_answer f w names rows op a b c.operand-left.result.now c.operand-in-Binary.result.now bits c.args.node c.in-Binary.is left right u) c.binary_row.ensures
