use Rattle.std.proofs.Common.{◌≤◌, length, subst, sym}
use Rattle.least.specs.Blocks.{IsBlockOf}
use Rattle.least.proofs.PartLaws.{part_short, parts_end, parts_step}
use Rattle.least.proofs.parts.blocks_of.Goals as goal

pub of-requires : goal.of-requires
of-requires g c = subst (λ us. length us ≤ 256) (sym c.part.ensures) (part_short c.parts.number c.args.items.now)

pub parts-preserved : goal.parts-preserved
parts-preserved g c =
    let R = IsBlockOf g.T.Elements.needs g.T.Elements.lacking in
    parts_step R c.args.items.now c.part_count-number-end.result c.parts.number c.parts.blocks.items c.push.new.self.items c.in_ok-of.field-0 c.parts-test.true c.in_ok-push.ensures.items
    (subst (λ us. R us c.in_ok-of.field-0) c.part.ensures c.in_ok-of.ensures) c.parts.invariant

pub returns : goal.returns
returns g c =
    parts_end (IsBlockOf g.T.Elements.needs g.T.Elements.lacking) c.args.items.now c.part_count-number-end.result c.parts.number c.parts.blocks.items c.part_count-number-end.ensures c.parts-test.false c.parts.invariant
