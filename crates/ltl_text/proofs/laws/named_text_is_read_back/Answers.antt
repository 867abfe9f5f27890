use Rattle.std.proofs.Common.{map, string_bytes}
use Rattle.ltl_text.proofs.BackLaws.{named_back}
use Rattle.ltl_text.proofs.laws.named_text_is_read_back.Goals as goal

pub returns : goal.returns
returns g c =
    named_back c.args.automaton.now (map string_bytes c.args.names.now) c.invariant.ensures c.requires.named c.requires.few c.requires.few_names c.requires.propositions c.requires.differ
