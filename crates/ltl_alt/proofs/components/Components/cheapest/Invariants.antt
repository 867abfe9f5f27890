use Rattle.std.proofs.Common.{◌<◌, length}
use Rattle.ltl_alt.proofs.components.Components.cheapest.Given as goal

abbrev pub invariant-second : goal.invariant-second
invariant-second g l = (l.best.0 < l.best.1) × (l.best.1 < length l.lists)

abbrev pub invariant-first : goal.invariant-first
invariant-first g l = (l.best.0 < l.best.1) × (l.best.1 < length l.lists)
