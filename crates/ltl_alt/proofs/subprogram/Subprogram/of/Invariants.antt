use Rattle.ltl_alt.specs.Subprograms.{IsPart}
use Rattle.ltl_alt.proofs.subprogram.Subprogram.of.Given as goal

abbrev pub invariant-steps : goal.invariant-steps
invariant-steps g l = IsPart l.steps l.needed l.k l.part.steps.keys l.part.numbers.items
