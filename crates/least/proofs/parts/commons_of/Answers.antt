use Rattle.std.proofs.Common.{subst}
use Rattle.least.specs.Blocks.{IsCommonOf}
use Rattle.least.proofs.PartLaws.{parts_end, parts_step}
use Rattle.least.proofs.parts.commons_of.Goals as goal

pub parts-preserved : goal.parts-preserved
parts-preserved g c =
    let R = IsCommonOf g.T.Elements.needs in
    parts_step R c.args.items.now c.part_count-number-end.result c.parts.number c.parts.commons.items c.push.new.self.items c.common_of.result c.parts-test.true c.in_ok-push.ensures.items
    (subst (λ us. R us c.common_of.result) c.part.ensures c.common_of.ensures) c.parts.invariant

pub returns : goal.returns
returns g c = parts_end (IsCommonOf g.T.Elements.needs) c.args.items.now c.part_count-number-end.result c.parts.number c.parts.commons.items c.part_count-number-end.ensures c.parts-test.false c.parts.invariant
