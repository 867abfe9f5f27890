use Rattle.std.proofs.Common.{map, string_bytes}
use Rattle.ltl_text.proofs.ClaimLaws.{claim_back}
use Rattle.ltl_text.proofs.laws.named_claim_is_read_back.Goals as goal

pub returns : goal.returns
returns g c = claim_back c.args.automaton.now (map string_bytes c.args.names.now) c.invariant.ensures c.requires.named c.requires.propositions
