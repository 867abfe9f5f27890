use Rattle.std.proofs.Common.{◌≡◌, ◌++◌, take}
use Rattle.ltl_check.specs.VerdictView.{letters_of}
use Rattle.ltl_check.proofs.draft.push_letters.Given as goal

abbrev pub invariant-loop-i : goal.invariant-loop-i
invariant-loop-i g l = l.letters.items ≡ l.fn.letters.items ++ letters_of (take l.i l.steps)
