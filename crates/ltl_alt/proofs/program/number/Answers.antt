use Rattle.ltl_alt.proofs.ProgramLaws.{numbered}
use Rattle.ltl_alt.proofs.program.number.Goals as goal

pub returns : goal.returns
returns g c = λ w m o. numbered _ _ c.args.step c.in_ok-number.number c.in_ok-number.ensures.keys c.in_ok-number.ensures.stored w m o
