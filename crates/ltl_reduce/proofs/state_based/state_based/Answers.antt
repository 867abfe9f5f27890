use Rattle.std.proofs.Common.{◌∙◌, ap, arith, map, rules}
use Rattle.ltl_automaton.specs.CodedEdges.{table_of}
use Rattle.ltl_automaton.specs.SharedView.{automaton_of}
use Rattle.ltl_reduce.specs.StateBased.{bare_coded, level_in}
use Rattle.ltl_reduce.proofs.StateBasedLaws.{based_labels, based_made, based_next}
use Rattle.ltl_reduce.proofs.state_based.state_based.Goals as goal

pub loop-s-preserved : goal.loop-s-preserved
loop-s-preserved g c =
    let C = automaton_of c.states-input.result.now.states in
    based_next c.args.automaton.now C (level_in c.as_slice-levels.result.now) (automaton_of c.loop-s.made) (automaton_of c.push.new.self) c.loop-s.s c.is_accepting-accepting.result _ c.loop-s.invariant c.in_ok-push.ensures.ok
    (c.in_ok-edges.ensures ∙ ap (map bare_coded) c.edges.ensures) (c.edges_agree.ensures (search rules))

pub returns-clause-based : goal.returns-clause-based
returns-clause-based g c =
    based_made (table_of c.states-input.result.now.table) (table_of c.in_ok-table.table) c.states-input.ensures.labels.tables c.args.automaton.now (automaton_of c.states-input.result.now.states) c.states-input.ensures.automaton
    c.states-input.ensures.labels.coded (level_in c.as_slice-levels.result.now) (automaton_of c.loop-s.made) c.loop-s.s c.loop-s.invariant (c.in_ok-table.ensures ∙ c.labels.ensures)
    (omega (arith, c.loop-s-test.false, c.loop-s.auto.s-end, c.len-s-end.ensures.count)) (omega (arith, c.if-sets-gt1.false, c.sets.ensures.count))

pub returns-clause-labels : goal.returns-clause-labels
returns-clause-labels g c =
    let (tables, coded) = based_labels (table_of c.states-input.result.now.table) (table_of c.in_ok-table.table) c.states-input.ensures.labels.tables c.args.automaton.now (automaton_of c.states-input.result.now.states)
    c.states-input.ensures.automaton c.states-input.ensures.labels.coded (level_in c.as_slice-levels.result.now) (automaton_of c.loop-s.made) c.loop-s.s c.loop-s.invariant (c.in_ok-table.ensures ∙ c.labels.ensures)
    (omega (arith, c.loop-s-test.false, c.loop-s.auto.s-end, c.len-s-end.ensures.count)) in
    record { tables = tables; coded = coded }
