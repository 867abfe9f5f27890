use Rattle.std.proofs.Common.{◌≡◌, ◌++◌, map, take}
use Rattle.ltl_check.specs.Shrunk.{bare}
use Rattle.ltl_check.proofs.draft.push_bare.Given as goal

abbrev pub invariant-loop-i : goal.invariant-loop-i
invariant-loop-i g l = l.letters.items ≡ l.fn.letters.items ++ map (bare l.p) (take l.i l.with)
