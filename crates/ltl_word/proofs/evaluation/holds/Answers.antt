use Rattle.std.proofs.Common.{◌∙◌, ◌∷◌, ◌++◌, [], refl, sym, subst, length}
use Rattle.ltl_word.specs.Evaluation.{AreOperandRows, IsRowOf}
use Rattle.ltl_word.specs.Uses.{KeepsLater, row_by}
use Rattle.ltl_syntax.specs.FormulaView.{tree_of, trees}
use Rattle.ltl_word.proofs.BitLemmas.{count_push}
use Rattle.ltl_word.proofs.RowLaws.{operand_rows, rows_step}
use Rattle.ltl_word.proofs.evaluation.holds.Goals as goal

pub node_row-requires-clause-rows : goal.node_row-requires-clause-rows
node_row-requires-clause-rows g c =
    let f = c.args.formula.now in
    let w = c.args.word.now in
    let node = c.node-node.result in
    subst (λ ns. AreOperandRows f w ns c.as_slice-in-loop-i.result.now node) (sym c.as_slice.ensures.value)
    (subst (λ rs. AreOperandRows f w c.in_ok-names.names.items rs node) (sym c.as_slice-in-loop-i.ensures.value)
    (operand_rows f w c.in_ok-names.names.items c.loop-i.rows.items c.in_ok-uses.uses.items node (length f.names) c.loop-i.i c.in_ok-uses.ensures c.loop-i.invariant.rows c.loop-i.invariant.count c.node-node.ensures.found c.node-node.ensures.operands))

pub release-requires-clause-stands : goal.release-requires-clause-stands
release-requires-clause-stands g c = (length c.args.formula.now.names, c.node-node.ensures.operands)

pub loop-i-preserved : goal.loop-i-preserved
loop-i-preserved g c =
    let f = c.args.formula.now in
    let w = c.args.word.now in
    let node = c.node-node.result in
    let row = c.in_ok-row.row in
    let old = c.loop-i.rows.items in
    let pushed = c.in_ok-push.ensures.items in
    let keeps : KeepsLater c.in_ok-uses.uses.items c.loop-i.i (old ++ row ∷ []) c.release.new.rows.items =
    subst (λ rs. KeepsLater c.in_ok-uses.uses.items c.loop-i.i rs c.release.new.rows.items) pushed
    (subst (λ us. KeepsLater us c.loop-i.i c.push.new.self.items c.release.new.rows.items) c.as_slice-in-loop-i-2.ensures.value c.release.ensures) in
    let own : IsRowOf f.names w (tree_of (trees f.nodes) node) (row_by c.in_ok-names.names.items row node) =
    subst (λ ns. IsRowOf f.names w (tree_of (trees f.nodes) node) (row_by ns row node)) c.as_slice.ensures.value c.in_ok-row.ensures in
    record {
      count = keeps.0 ∙ count_push old row (old ++ row ∷ []) c.loop-i.i refl c.loop-i.invariant.count;
      rows = rows_step f w c.in_ok-names.names.items old c.release.new.rows.items c.in_ok-uses.uses.items row node c.loop-i.i c.len-i-end.ensures.formula c.loop-i.invariant.rows c.loop-i.invariant.count c.node-node.ensures.found own keeps;
    }
