use Rattle.std.specs.Prelude.{All}
use Rattle.ltl_reduce.specs.Build.{IsChosen}
use Rattle.ltl_reduce.proofs.build.chosen.Given as goal

abbrev pub invariant-loop-choice : goal.invariant-loop-choice
invariant-loop-choice g l = All (IsChosen l.edges l.count) l.made.items
