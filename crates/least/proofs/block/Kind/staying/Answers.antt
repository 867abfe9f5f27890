use Rattle.std.proofs.Common.{◌∙◌, ap, not, subst}
use Rattle.std.specs.List.{filter}
use Rattle.std.specs.Ordering.{nat_cmp}
use Rattle.ltl_spec.specs.Collections.Sets.{has}
use Rattle.least.specs.Blocks.{AreStaying, KindView}
use Rattle.least.proofs.BlockLaws.{staying_is}
use Rattle.least.proofs.block.Kind.staying.Goals as goal

pub returns : goal.returns
returns g c =
    let kind : KindView = record { needs = c.self.inside.needs; lacks = c.self.inside.lacks } in
    subst (λ (v : KindView). AreStaying c.args.all c.args.needs.now c.args.asks.now v c.without_columns.result) c.self.view_is
    (staying_is c.args.all c.args.needs.now c.args.asks.now c.without_columns-left.result c.without_columns.result c.without.result c.common.result kind
    (c.without.ensures ∙ ap (filter (λ e. not (has nat_cmp e c.args.needs.now))) c.met.ensures) (c.common.ensures ∙ ap (filter (λ e. has nat_cmp e c.args.asks.now)) c.met-2.ensures)
    c.without_columns-left.ensures c.without_columns.ensures)
