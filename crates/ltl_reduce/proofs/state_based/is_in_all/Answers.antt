use Rattle.std.proofs.Common.{arith}
use Rattle.ltl_automaton.specs.EdgeView.{edge_of}
use Rattle.ltl_reduce.proofs.StateBasedLaws.{in_all_one}
use Rattle.ltl_reduce.proofs.state_based.is_in_all.Goals as goal

pub returns : goal.returns
returns c = in_all_one c.args.sets c.holds.result (edge_of c.args.edge.now) c.requires (omega (arith, c.if-sets-eq0.false)) c.holds.ensures
