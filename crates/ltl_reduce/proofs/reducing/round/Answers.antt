use Rattle.ltl_reduce.proofs.ReductionLaws.{reduction_on}
use Rattle.ltl_reduce.proofs.reducing.round.Goals as goal

pub returns : goal.returns
returns g c = reduction_on c.args.automaton c.in_ok-small.small c.in_ok-smaller.smaller c.in_ok-small.ensures c.in_ok-smaller.ensures
