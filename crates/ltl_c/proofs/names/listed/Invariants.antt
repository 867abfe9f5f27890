use Rattle.std.proofs.Common.{◌≡◌, take}
use Rattle.ltl_c.specs.Names.{names_text}
use Rattle.ltl_c.proofs.names.listed.Given as goal

abbrev pub invariant-loop-p : goal.invariant-loop-p
invariant-loop-p g l = l.text.items ≡ names_text (take l.p l.formula.names)
