use Rattle.std.proofs.Common.{◌<◌, ◌≤◌, subst, length}
use Rattle.ltl_automaton.specs.CodedEdges.{tables_of}
use Rattle.ltl_automaton.specs.SharedView.{automaton_of}
use Rattle.ltl_passes.proofs.PartitionedLaws.{class_inside, classes_done}
use Rattle.ltl_passes.proofs.quotient.Partitioned.quotient.Goals as goal

pub list-list-requires : goal.list-list-requires
list-list-requires g c =
    let p = c.args.self.now in
    let below = subst (λ cs. c.loop-class.class < length cs) c.as_slice-classes.ensures.value c.loop-class-test.true in
    class_inside p.names.now p.numbering.classes.items p.numbering.numbers.items _ _ c.loop-class.class c.requires.named c.requires.numbering c.requires.long c.as_slice-classes.ensures.value below

pub returns-clause-merged : goal.returns-clause-merged
returns-clause-merged g c =
    let p = c.args.self.now in
    classes_done (tables_of p.labels) (automaton_of p.states.now) p.keep_implied p.names.now p.numbering.classes.items p.numbering.numbers.items c.requires.numbering (automaton_of c.loop-class.made) c.loop-class.class c.loop-class.invariant.made
    (subst (λ cs. length cs ≤ c.loop-class.class) c.as_slice-classes.ensures.value c.loop-class-test.false)
