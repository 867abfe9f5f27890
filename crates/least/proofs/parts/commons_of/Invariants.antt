use Rattle.least.specs.Blocks.{IsCommonOf}
use Rattle.least.proofs.PartLaws.{ArePartsTo}
use Rattle.least.proofs.parts.commons_of.Given as goal

abbrev pub invariant-parts : goal.invariant-parts
invariant-parts g l = ArePartsTo (IsCommonOf g.T.Elements.needs) l.items l.number-end l.number l.commons.items
