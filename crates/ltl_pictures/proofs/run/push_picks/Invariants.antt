use Rattle.std.proofs.Common.{◌≡◌, ◌++◌, map, take}
use Rattle.ltl_pictures.specs.Picks.{pick_of}
use Rattle.ltl_pictures.proofs.run.push_picks.Given as goal

abbrev pub invariant-loop-k : goal.invariant-loop-k
invariant-loop-k g l = l.picks.items ≡ l.fn.picks.items ++ map (pick_of l.states) (take l.k l.steps)
