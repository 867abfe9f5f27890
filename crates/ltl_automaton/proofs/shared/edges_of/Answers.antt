use Rattle.std.proofs.Common.{◌∙◌, ◌∷◌, ◌++◌, ◌<◌, [], arith, map, ap, refl, sym, subst}
use Rattle.std.specs.Prelude.{slice_index_or}
use Rattle.ltl_automaton.proofs.EdgeLaws.{map_pushed}
use Rattle.ltl_automaton.proofs.NetLaws.{edges_to_at, edges_to_none, edges_to_whole}
use Rattle.ltl_automaton.proofs.shared.edges_of.Goals as goal

pub loop-i-init : goal.loop-i-init
loop-i-init g c = ap (map g.E.EdgeType.edge_of) c.in_ok-edges.ensures.items ∙ sym (edges_to_none _)

pub loop-i-preserved : goal.loop-i-preserved
loop-i-preserved g c =
    let view = g.E.EdgeType.edge_of in
    let n = slice_index_or c.args.targets.now c.loop-i.i 0 in
    let within = subst (λ m. c.loop-i.i < m) c.requires c.loop-i-test.true in
    let next = edges_to_at g.T.Step.move_of c.args.steps.now c.args.targets.now c.loop-i.i c.index-steps-i.result n 0 c.loop-i-test.true within c.index-steps-i.is refl in
    map_pushed view c.loop-i.edges.items c.push.new.self.items c.edge_to.result c.in_ok-push.ensures.items ∙ (λ i. c.loop-i.invariant i ++ c.edge_to.ensures i ∷ []) ∙ sym next

pub returns : goal.returns
returns g c = c.loop-i.invariant ∙ edges_to_whole g.T.Step.move_of c.args.steps.now c.args.targets.now c.loop-i.i (omega (arith, c.loop-i-test.false)) (omega (arith, c.requires, c.loop-i-test.false))
