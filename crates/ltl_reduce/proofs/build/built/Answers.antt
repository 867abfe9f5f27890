use Rattle.std.proofs.Common.{◌≡◌, arith, length, sym, subst, ◌∙◌, vec_len}
use Rattle.ltl_automaton.specs.CodedEdges.{table_of}
use Rattle.ltl_automaton.specs.SharedView.{automaton_of}
use Rattle.ltl_reduce.specs.Build.{IsBuiltFrom}
use Rattle.ltl_reduce.proofs.BuildLaws.{chosen_from, making_next, whole_built, whole_coded, whole_gba, whole_tables}
use Rattle.ltl_reduce.proofs.build.built.Goals as goal

pub loop-b-preserved : goal.loop-b-preserved
loop-b-preserved g c =
    let from = automaton_of c.states-input.result.now.states in
    let counted : vec_len c.in_ok-edges.edges ≡ length c.in_ok-edges.edges.items = omega (arith, c.in_ok-edges.edges.ok.0) in
    making_next from c.len-count.result c.edge_total-left.result (automaton_of c.loop-b.made) (automaton_of c.push.new.self) c.loop-b.b c.loop-b.left c.len-in-loop-b-3.result c.in_ok-edges.edges.items c.loop-b.invariant c.in_ok-push.ensures.ok
    (c.len-in-loop-b-3.ensures ∙ counted) (omega (arith, c.len-in-loop-b-2.ensures, c.len-in-loop-b-3.ensures, c.if-len-left.false)) (chosen_from from c.index-source.result.now c.len-count.result c.edges.result.now c.in_ok-edges.edges.items c.edges.ensures c.in_ok-edges.ensures)

pub new-requires-clause-inside : goal.new-requires-clause-inside
new-requires-clause-inside g c =
    whole_gba c.args.automaton.now (table_of c.states-input.result.now.table) (table_of c.in_ok-table.field-0) (automaton_of c.states-input.result.now.states) c.len-count.result c.edge_total-left.result c.loop-b.b c.loop-b.left (automaton_of c.loop-b.made)
    c.states-input.ensures.labels.tables c.states-input.ensures.labels.coded c.states-input.ensures.automaton (c.in_ok-table.ensures ∙ c.labels.ensures) c.loop-b.invariant (omega (arith, c.loop-b-test.false, c.loop-b.auto.b-end))
    c.invariant.ensures (omega (arith, c.if-count-len.false, c.len.ensures.count)) (omega (arith, c.if-count-eq0.false)) c.edge_total-left.ensures

pub new-requires-clause-labels : goal.new-requires-clause-labels
new-requires-clause-labels g c = record {
  tables =
      whole_tables c.args.automaton.now (table_of c.states-input.result.now.table) (table_of c.in_ok-table.field-0) (automaton_of c.states-input.result.now.states) c.len-count.result c.edge_total-left.result c.loop-b.b c.loop-b.left (automaton_of c.loop-b.made)
      c.states-input.ensures.labels.tables c.states-input.ensures.labels.coded c.states-input.ensures.automaton (c.in_ok-table.ensures ∙ c.labels.ensures) c.loop-b.invariant (omega (arith, c.loop-b-test.false, c.loop-b.auto.b-end));
  coded =
      whole_coded c.args.automaton.now (table_of c.states-input.result.now.table) (table_of c.in_ok-table.field-0) (automaton_of c.states-input.result.now.states) c.len-count.result c.edge_total-left.result c.loop-b.b c.loop-b.left (automaton_of c.loop-b.made)
      c.states-input.ensures.labels.tables c.states-input.ensures.labels.coded c.states-input.ensures.automaton (c.in_ok-table.ensures ∙ c.labels.ensures) c.loop-b.invariant (omega (arith, c.loop-b-test.false, c.loop-b.auto.b-end));
}

pub returns : goal.returns
returns g c =
    subst (IsBuiltFrom c.args.automaton.now) (sym c.new.ensures) (whole_built c.args.automaton.now (table_of c.states-input.result.now.table) (table_of c.in_ok-table.field-0) (automaton_of c.states-input.result.now.states) c.len-count.result c.edge_total-left.result c.loop-b.b c.loop-b.left (automaton_of c.loop-b.made)
    c.states-input.ensures.labels.tables c.states-input.ensures.labels.coded c.states-input.ensures.automaton (c.in_ok-table.ensures ∙ c.labels.ensures) c.loop-b.invariant (omega (arith, c.loop-b-test.false, c.loop-b.auto.b-end))
    (omega (arith, c.if-count-len.false, c.len.ensures.count)) c.edge_total-left.ensures)
