use Rattle.std.proofs.Common.{◌∙◌}
use Rattle.std.specs.List.{filter}
use Rattle.std.proofs.lemmas.Result.{IfOk-weaker}
use Rattle.least.specs.Blocks.{AreLacks}
use Rattle.least.specs.Columns.{AreColumnsOf}
use Rattle.least.proofs.BlockLaws.{lacks_columns, map_whole}
use Rattle.least.proofs.block.lacks_of.Goals as goal

pub returns : goal.returns
returns g c =
    let lacking = g.T.Elements.lacking in
    let block = c.args.block.now in
    let asked = c.asked-asked.result in
    let sets = c.items.sets.items in
    IfOk-weaker c.of.result (AreColumnsOf c.as_slice.result.now) (AreLacks lacking block c.args.kind)
    (λ v. lacks_columns lacking asked block c.args.kind c.as_slice.result.now v (c.as_slice.ensures.value ∙ map_whole (λ u. filter (lacking u c.args.kind) asked) block c.items.item-index sets c.items-test.false c.items.invariant)) c.of.ensures
