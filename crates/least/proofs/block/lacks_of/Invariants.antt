use Rattle.std.proofs.Common.{◌≡◌, map, take}
use Rattle.std.specs.List.{filter}
use Rattle.least.proofs.block.lacks_of.Given as goal

abbrev pub invariant-items : goal.invariant-items
invariant-items g l = l.sets.items ≡ map (λ u. filter (g.T.Elements.lacking u l.kind) l.asked) (take l.item-index l.block)
