use Rattle.std.proofs.Common.{refl, take, ◌∙◌}
use Rattle.std.proofs.lemmas.List.{take_more}
use Rattle.ltl_automaton.proofs.WayLaws.{take_whole}
use Rattle.ltl_passes.specs.declared.implied.RunEdge as made
use Rattle.ltl_passes.specs.Runs.{edge_at}
use Rattle.ltl_passes.proofs.RunLaws.{labelled_next, ordered_next}
use Rattle.ltl_passes.proofs.implied.with_labels.Goals as goal

pub loop-edge-preserved : goal.loop-edge-preserved
loop-edge-preserved g c =
    let coded = edge_at c.args.edges.now c.loop-edge.edge-index in
    let taken = take_more c.args.edges.now c.loop-edge.edge-index _ c.loop-edge-test.true in
    let item : made.RunEdge = record { edge = c.edge.result; coded = coded } in
    record {
      codes = ordered_next c.loop-edge.order.items c.push.new.self.items (take c.loop-edge.edge-index c.args.edges.now) _ item coded c.loop-edge.invariant.codes refl c.in_ok-push.ensures.items taken;
      labelled = labelled_next c.args.labels.now c.loop-edge.order.items c.push.new.self.items item c.loop-edge.invariant.labelled c.edge.ensures c.in_ok-push.ensures.items;
    }

pub returns-clause-codes : goal.returns-clause-codes
returns-clause-codes g c = c.loop-edge.invariant.codes ∙ take_whole c.loop-edge.edge-index c.args.edges.now c.loop-edge-test.false
