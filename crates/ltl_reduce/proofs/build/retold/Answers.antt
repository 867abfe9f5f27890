use Rattle.std.proofs.Common.{arith, refl}
use Rattle.std.specs.Prelude.{slice_index_or}
use Rattle.ltl_automaton.specs.declared.coded_edge.CodedEdge as code
use Rattle.ltl_reduce.proofs.BuildLaws.{chosen_is}
use Rattle.ltl_reduce.proofs.build.retold.Goals as goal

pub returns : goal.returns
returns c =
    let none : code.CodedEdge = record { cube = 0; marks = 0; target = 0 } in
    chosen_is c.args.edges.now c.args.choice.now.place c.args.count none (slice_index_or c.args.edges.now c.args.choice.now.place none) _ (omega (arith, c.if-choice-edges.false)) refl refl c.kept_marks.ensures (omega (arith, c.if-target-count.false))
