use Rattle.std.proofs.Common.{arith}
use Rattle.ltl_automaton.specs.EdgeView.{edge_of}
use Rattle.ltl_reduce.proofs.CheckLaws.{level_without}
use Rattle.ltl_reduce.proofs.checking.is_level_right.Goals as goal

pub returns : goal.returns
returns c = λ _. level_without c.args.sets c.level-level.result c.level-target.result c.lacking-lacking.result c.holds.result c.args.frees.now c.args.s (edge_of c.args.edge.now) c.level-level.ensures c.level-target.ensures c.lacking-lacking.ensures
    (omega (arith, c.if-target-level-2.false)) c.holds.ensures c.if-holds.false
