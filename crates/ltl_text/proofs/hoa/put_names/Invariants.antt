use Rattle.std.proofs.Common.{drop}
use Rattle.ltl_text.specs.HoaPieces.{quoted_names}
use Rattle.ltl_streams.proofs.PrintLaws.{Lacks}
use Rattle.ltl_text.proofs.hoa.put_names.Given as goal

abbrev pub invariant-loop-k : goal.invariant-loop-k
invariant-loop-k g l =
    Lacks g.S.ByteSink.state l.fn.output l.output (quoted_names (drop l.k l.formula.names)) (quoted_names l.formula.names)
