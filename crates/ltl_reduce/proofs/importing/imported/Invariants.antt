use Rattle.ltl_reduce.proofs.ImportLaws.{IsUnderWay}
use Rattle.ltl_automaton.specs.LabelTables.{IsBuilt, built_of}
use Rattle.ltl_reduce.proofs.importing.imported.Given as goal

abbrev pub invariant-loop-k : goal.invariant-loop-k
invariant-loop-k g l = IsUnderWay l.automaton l.k (built_of l.builder) (IsBuilt l.builder)
