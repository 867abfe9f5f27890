use Rattle.std.proofs.Common.{◌∙◌, ap, arith, map, [], subst, sym}
use Rattle.std.specs.Prelude.{IsTrue}
use Rattle.ltl_spec.specs.Collections.Sets.{has}
use Rattle.ltl_spec.specs.Semantics.Word.{letter_at, name_cmp}
use Rattle.ltl_word.specs.LassoView.{size}
use Rattle.ltl_word.specs.Rows.{IsRow}
use Rattle.ltl_pictures.specs.Timeline.{name_at}
use Rattle.ltl_pictures.proofs.NameLaws.{count_push, each_pushed, lent_at}
use Rattle.ltl_pictures.proofs.propositions.name_rows.Goals as goal

pub loop-p-preserved : goal.loop-p-preserved
loop-p-preserved g c =
    let names = map (λ n. n.now) c.args.names.now in
    let w = c.args.word.now in
    let here = sym (lent_at c.args.names.now c.loop-p.p _ (omega arith)) ∙ ap (name_at names) (sym c.loop-p.invariant.count) in
    record {
      count = count_push c.loop-p.rows.items _ c.push.new.self.items c.loop-p.p c.in_ok-push.ensures.items c.loop-p.invariant.count;
      rows = each_pushed (λ p row. IsRow (size w) (λ i. IsTrue (has name_cmp (name_at names p) (letter_at w i))) row) c.loop-p.rows.items c.push.new.self.items _ [] c.in_ok-push.ensures.items c.loop-p.invariant.rows
          (subst (λ n. IsRow (size w) (λ i. IsTrue (has name_cmp n (letter_at w i))) c.in_ok-row_of_name.field-0) here c.in_ok-row_of_name.ensures);
    }
