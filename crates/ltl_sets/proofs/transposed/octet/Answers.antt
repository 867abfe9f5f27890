use Rattle.std.proofs.Common.{sym, ◌∙◌}
use Rattle.ltl_sets.proofs.TransposedLaws.{none_at_all, none_met}
use Rattle.ltl_sets.proofs.transposed.octet.Goals as goal

pub returns-then-byte-eq0 : goal.returns-then-byte-eq0
returns-then-byte-eq0 c =
    none_at_all c.args.sets.now c.args.met.now c.requires.met c.args.k c.byte.result c.empty-columns.result c.empty-columns.ensures c.if-byte-eq0.true c.byte.ensures

pub indices_if-requires-clause-unmet : goal.indices_if-requires-clause-unmet
indices_if-requires-clause-unmet c f =
    none_met c.args.sets.now c.args.met.now c.requires.met c.args.k c.numbers.i c.bytes_of-bytes.result c.numbers-test.true c.bytes_of-bytes.ensures (sym c.contains.ensures ∙ f)
