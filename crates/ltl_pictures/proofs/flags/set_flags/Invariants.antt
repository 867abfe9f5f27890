use Rattle.std.proofs.Common.{take}
use Rattle.ltl_pictures.specs.Picked.{AreFlags}
use Rattle.ltl_pictures.specs.RunText.{is_picked}
use Rattle.ltl_pictures.proofs.flags.set_flags.Given as goal

abbrev pub invariant-loop-i : goal.invariant-loop-i
invariant-loop-i g l = AreFlags l.automaton (is_picked (take l.i l.picks)) l.flags.items
