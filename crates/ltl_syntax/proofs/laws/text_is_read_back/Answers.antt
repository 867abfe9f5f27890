use Rattle.ltl_syntax.proofs.ReadLemmas.{own_text}
use Rattle.ltl_syntax.proofs.laws.text_is_read_back.Goals as goal

pub returns : goal.returns
returns g c = own_text c.args.formula.now c.invariant.ensures
