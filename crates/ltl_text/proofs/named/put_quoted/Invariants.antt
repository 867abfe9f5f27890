use Rattle.std.proofs.Common.{drop, map, string_bytes}
use Rattle.ltl_text.specs.HoaPieces.{quoted_names}
use Rattle.ltl_streams.proofs.PrintLaws.{Lacks}
use Rattle.ltl_text.proofs.named.put_quoted.Given as goal

abbrev pub invariant-loop-k : goal.invariant-loop-k
invariant-loop-k g l = Lacks g.S.ByteSink.state l.fn.output l.output (quoted_names (map string_bytes (drop l.k l.names))) (quoted_names (map string_bytes l.names))
