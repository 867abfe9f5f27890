use Rattle.std.proofs.Common.{All, take}
use Rattle.least.specs.Columns.{IsMet}
use Rattle.least.proofs.columns.together.Given as goal

abbrev pub invariant-sets : goal.invariant-sets
invariant-sets l = All (IsMet l.all) (take l.set-index l.sets)
