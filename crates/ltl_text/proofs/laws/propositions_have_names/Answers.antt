use Rattle.ltl_text.proofs.BackLaws.{names_below}
use Rattle.ltl_text.proofs.laws.propositions_have_names.Goals as goal

pub returns : goal.returns
returns g c = names_below c.args.formula.now c.invariant.ensures
