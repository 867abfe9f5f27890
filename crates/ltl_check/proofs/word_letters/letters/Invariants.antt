use Rattle.ltl_check.specs.WordLetters.{AreLettersTo}
use Rattle.ltl_check.proofs.word_letters.letters.Given as goal

abbrev pub invariant-loop-p : goal.invariant-loop-p
invariant-loop-p g l = AreLettersTo (g.F.Operand.automaton_of l.automaton).names l.word l.p l.letters.items
