use Rattle.std.proofs.Common.{◌∙◌, not}
use Rattle.std.specs.List.{filter}
use Rattle.std.specs.Ordering.{nat_cmp}
use Rattle.ltl_spec.specs.Collections.Sets.{has}
use Rattle.ltl_alt.specs.Columns.{unmarked_by}
use Rattle.ltl_alt.proofs.ColumnLaws.{mapped_next}
use Rattle.ltl_alt.proofs.marks.unmarked_pairs.Goals as goal

pub untils-preserved : goal.untils-preserved
untils-preserved g c =
    let made = c.without.ensures ∙ (λ k. filter (λ j. not (has nat_cmp j (c.column_at-fulfilling.ensures k))) (c.leading.ensures.column k)) in
    mapped_next (unmarked_by c.args.needing.now c.args.columns.now) c.args.fulfilment.now.untils.items c.untils.number c.until-until.result c.without.result c.untils.sets.items c.push.new.self.items
    c.until-until.ensures made c.in_ok-push.ensures.items c.untils.invariant
