use Rattle.least.specs.Blocks.{HasCandidates}
use Rattle.least.proofs.block.Block.candidates.Given as goal

abbrev pub invariant-kinds : goal.invariant-kinds
invariant-kinds g l = HasCandidates (g.T.Elements.needs l.item) (g.T.Elements.asks l.item) l.self l.left
