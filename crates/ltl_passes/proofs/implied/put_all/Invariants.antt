use Rattle.std.proofs.Common.{◌≡◌, ◌++◌, take}
use Rattle.std.specs.Prelude.{map}
use Rattle.ltl_passes.specs.Runs.{code_of}
use Rattle.ltl_passes.proofs.implied.put_all.Given as goal

abbrev pub invariant-loop-item : goal.invariant-loop-item
invariant-loop-item g l = l.kept.items ≡ l.fn.kept.items ++ map code_of (take l.item-index l.run)
