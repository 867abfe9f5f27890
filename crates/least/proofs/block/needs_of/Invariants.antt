use Rattle.std.proofs.Common.{◌≡◌, map, take}
use Rattle.least.proofs.block.needs_of.Given as goal

abbrev pub invariant-items : goal.invariant-items
invariant-items g l = l.sets.items ≡ map (λ u. g.T.Elements.needs u l.kind) (take l.item-index l.block)
