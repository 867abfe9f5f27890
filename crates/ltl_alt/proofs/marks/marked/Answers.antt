use Rattle.std.proofs.Common.{◌≡◌, ◌+◌, ◌-◌, ◌++◌, ◌∙◌, ap, arith, drop, map, subst, sym, take}
use Rattle.std.proofs.lemmas.List.{map-append}
use Rattle.std.proofs.Math.Seq.{take-add}
use Rattle.ltl_spec.specs.Transitions.RowTransitions.{with_marks}
use Rattle.ltl_alt.specs.Columns.{unmarked_by}
use Rattle.least.specs.Columns.{AreColumnsOf}
use Rattle.ltl_alt.specs.TransitionView.{table_at}
use Rattle.ltl_alt.proofs.ColumnLaws.{unmarked_are}
use Rattle.ltl_alt.proofs.marks.marked.Goals as goal

pub slices-preserved : goal.slices-preserved
slices-preserved g c =
    let f = with_marks (table_at c.args.table.now) in
    let ps = c.args.pairs.now in
    let i = c.slices.from in
    let m = c.min-end.result - i in
    let b = c.min-end.ensures in
    let s = c.saturating_add.ensures in
    let w = c.slices.invariant.within in
    let fits = c.slices.auto.from-fits in
    let more : i + m ≡ c.min-end.result = omega (arith, b, s, w, fits) in
    record {
      within = omega (arith, b);
      marked =
          c.in_ok-mark_block.ensures ∙ ap (λ ts. ts ++ map f (take m (drop i ps))) c.slices.invariant.marked ∙ sym (map-append f (take i ps) (take m (drop i ps)))
          ∙ ap (map f) (sym (take-add i m ps) ∙ ap (λ n. take n ps) more);
    }

pub mark_block-requires-clause-unmarked : goal.mark_block-requires-clause-unmarked
mark_block-requires-clause-unmarked g c =
    let f = c.args.fulfilment.now in
    let block = take (c.min-end.result - c.slices.from) (drop c.slices.from c.args.pairs.now) in
    let n = c.in_ok-needing.needing in
    let v = c.in_ok-unmarked.unmarked in
    unmarked_are (table_at c.args.table.now) f block n c.put_columns.new.columns.items v c.requires c.in_ok-needing.ensures (c.in_ok-put_columns.ensures block c.in_ok-needing.ensures)
    (subst (λ cs. AreColumnsOf (map (unmarked_by n cs) f.untils.items) v) c.as_slice.ensures.value c.in_ok-unmarked.ensures)
