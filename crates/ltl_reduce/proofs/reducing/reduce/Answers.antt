use Rattle.ltl_reduce.proofs.ReductionLaws.{reduction_on, reduction_self}
use Rattle.ltl_reduce.proofs.reducing.reduce.Goals as goal

pub loop-round-init : goal.loop-round-init
loop-round-init g c = reduction_self c.args.automaton

pub loop-round-preserved : goal.loop-round-preserved
loop-round-preserved g c = reduction_on c.args.automaton c.loop-round.current c.in_ok-next.next c.loop-round.invariant c.in_ok-next.ensures

pub returns-then-done : goal.returns-then-done
returns-then-done g c = reduction_on c.args.automaton c.loop-round.current c.in_ok-next.next c.loop-round.invariant c.in_ok-next.ensures
