use Rattle.ltl_text.specs.Blocks.{others_text}
use Rattle.ltl_text.proofs.BlockLaws.{others_from}
use Rattle.ltl_streams.proofs.PrintLaws.{Lacks}
use Rattle.ltl_text.proofs.claim.put_others.Given as goal

abbrev pub invariant-loop-k : goal.invariant-loop-k
invariant-loop-k g l =
    Lacks g.S.ByteSink.state l.fn.output l.output
    (others_from l.automaton l.texts l.k) (others_text l.automaton l.texts)
