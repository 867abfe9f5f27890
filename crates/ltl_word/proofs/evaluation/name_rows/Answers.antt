use Rattle.std.proofs.Common.{◌∙◌, [], ap, sym, subst}
use Rattle.ltl_spec.specs.Formulas.Formula.{Proposition}
use Rattle.std.specs.Prelude.{IsTrue, slice_index_or}
use Rattle.ltl_spec.specs.Collections.Sets.{has}
use Rattle.ltl_spec.specs.Semantics.Word.{letter_at, name_cmp}
use Rattle.ltl_word.specs.Evaluation.{IsRowOf}
use Rattle.ltl_word.specs.LassoView.{size}
use Rattle.ltl_word.specs.Rows.{IsRow}
use Rattle.ltl_word.proofs.BitLemmas.{count_push, each_pushed}
use Rattle.ltl_word.proofs.evaluation.name_rows.Goals as goal

pub loop-p-preserved : goal.loop-p-preserved
loop-p-preserved g c =
    let names = c.args.formula.now.names in
    let word = c.args.word.now in
    record {
      count = count_push c.loop-p.rows.items _ c.push.new.self.items c.loop-p.p c.in_ok-push.ensures.items c.loop-p.invariant.count;
      rows = each_pushed (λ p row. IsRowOf names word (Proposition p) row) c.loop-p.rows.items c.push.new.self.items _ [] c.in_ok-push.ensures.items c.loop-p.invariant.rows (subst (λ n. IsRow (size word) (λ i. IsTrue (has name_cmp n (letter_at word i))) c.in_ok-row_of_name.field-0) (c.as_bytes.ensures.value ∙ c.name.ensures ∙ ap (λ p. slice_index_or names p []) (sym c.loop-p.invariant.count)) c.in_ok-row_of_name.ensures);
    }
