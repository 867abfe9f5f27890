use Rattle.std.proofs.Common.{ap, refl, ◌∙◌}
use Rattle.std.specs.Prelude.{map, take}
use Rattle.std.proofs.lemmas.List.{take_more}
use Rattle.ltl_automaton.proofs.WayLaws.{take_whole}
use Rattle.ltl_automaton.specs.CodedEdges.{coded_edge_of}
use Rattle.ltl_reduce.specs.StateBased.{bare_coded}
use Rattle.ltl_reduce.proofs.StateBasedLaws.{bare_next}
use Rattle.ltl_reduce.proofs.state_based.bare.Goals as goal

pub loop-edge-preserved : goal.loop-edge-preserved
loop-edge-preserved g c =
    bare_next c.loop-edge.made.items c.push.new.self.items _ (take c.loop-edge.edge-index c.args.edges.now) _ _ c.loop-edge.invariant refl refl refl c.in_ok-push.ensures.items (take_more c.args.edges.now c.loop-edge.edge-index _ c.loop-edge-test.true)

pub returns : goal.returns
returns g c = c.loop-edge.invariant ∙ ap (λ es. map bare_coded (map coded_edge_of es)) (take_whole c.loop-edge.edge-index c.args.edges.now c.loop-edge-test.false)
