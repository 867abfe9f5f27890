use Rattle.std.proofs.Common.{◌≡◌, take, map}
use Rattle.ltl_alt.specs.Elements.{needs_of}
use Rattle.ltl_alt.proofs.columns.sets_of.Given as goal

abbrev pub invariant-pairs : goal.invariant-pairs
invariant-pairs g l = l.sets.items ≡ map (λ p. needs_of p l.kind) (take l.pair-index l.block)
