use Rattle.least.specs.Blocks.{IsBlockOf}
use Rattle.least.proofs.PartLaws.{ArePartsTo}
use Rattle.least.proofs.parts.blocks_of.Given as goal

abbrev pub invariant-parts : goal.invariant-parts
invariant-parts g l = ArePartsTo (IsBlockOf g.T.Elements.needs g.T.Elements.lacking) l.items l.number-end l.number l.blocks.items
