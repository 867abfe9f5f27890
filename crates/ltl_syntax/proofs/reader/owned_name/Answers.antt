use Rattle.ltl_syntax.proofs.ReadLemmas.{name_utf8}
use Rattle.ltl_syntax.proofs.reader.owned_name.Goals as goal

pub unreachable-requires : goal.unreachable-requires
unreachable-requires g c = c.in-Err.ensures.cases.0 (name_utf8 c.args.name.now c.requires)
