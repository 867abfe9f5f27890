use Rattle.std.proofs.Common.{◌∙◌}
use Rattle.std.proofs.lemmas.Result.{IfOk-weaker}
use Rattle.least.specs.Blocks.{AreNeeds}
use Rattle.least.specs.Columns.{AreColumnsOf}
use Rattle.least.proofs.BlockLaws.{map_whole, needs_columns}
use Rattle.least.proofs.block.needs_of.Goals as goal

pub returns : goal.returns
returns g c =
    let needs = g.T.Elements.needs in
    let block = c.args.block.now in
    let sets = c.items.sets.items in
    IfOk-weaker c.of.result (AreColumnsOf c.as_slice.result.now) (AreNeeds needs block c.args.kind)
    (λ v. needs_columns needs block c.args.kind c.as_slice.result.now v (c.as_slice.ensures.value ∙ map_whole (λ u. needs u c.args.kind) block c.items.item-index sets c.items-test.false c.items.invariant)) c.of.ensures
