use Rattle.ltl_syntax.proofs.ReadLemmas.{read_back}
use Rattle.ltl_syntax.proofs.laws.canonical_text_is_read_back.Goals as goal

pub returns : goal.returns
returns c = read_back
