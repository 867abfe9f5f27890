use Rattle.ltl_claim.proofs.NameLaws.{name_utf8}
use Rattle.ltl_claim.proofs.resolve.owned_name.Goals as goal

pub unreachable-requires : goal.unreachable-requires
unreachable-requires g c = c.in-Err.ensures.cases.0 (name_utf8 c.args.name.now c.requires)
