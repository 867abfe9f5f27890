use Rattle.ltl_spec.specs.Automata.GeneralizedText.{acceptance_text}
use Rattle.ltl_streams.proofs.PrintLaws.{Lacks}
use Rattle.ltl_text.proofs.HoaLaws.{sets_from}
use Rattle.ltl_text.proofs.generalized.put_acceptance.Given as goal

abbrev pub invariant-loop-k : goal.invariant-loop-k
invariant-loop-k g l =
    Lacks g.S.ByteSink.state l.fn.output l.output (sets_from l.sets l.k) (acceptance_text l.sets)
