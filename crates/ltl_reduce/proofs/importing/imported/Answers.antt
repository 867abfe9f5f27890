use Rattle.std.proofs.Common.{◌≡◌, ◌∙◌, ◌<◌, ℕ, All, ap, arith, map, subst, sym}
use Rattle.ltl_spec.proofs.Collections.FoundLaws.{map_same}
use Rattle.ltl_automaton.specs.LabelTables.{built_of}
use Rattle.ltl_automaton.specs.Net.{successor_of}
use Rattle.ltl_hoa.specs.MarkedView.{edge_of}
use Rattle.ltl_models.specs.GbaView.{IsAcceptingGba}
use Rattle.ltl_reduce.specs.Importing.{IsFineEdge, edges_from, exchanged, numbers_of, started_to, step_edge}
use Rattle.ltl_reduce.specs.declared.importing.ReadEdge.{ReadEdge}
use Rattle.ltl_reduce.proofs.ImportLaws.{started_gba, way_goes_on}
use Rattle.ltl_reduce.proofs.importing.imported.Goals as goal

pub loop-k-preserved : goal.loop-k-preserved
loop-k-preserved g c =
    let A = c.args.automaton.now in
    let edges = map edge_of c.edges-edges.result.now in
    let start = c.start-start.ensures in
    let is = c.edges-edges.ensures ∙ ap (edges_from A) (c.exchange.ensures ∙ ap (λ s. exchanged s c.loop-k.k) start) in
    let move = λ (r : ReadEdge). successor_of (edge_of r.edge) in
    let steps = ap (map move) c.as_slice.ensures.value ∙ sym (map_same step_edge successor_of c.in_ok-steps.steps.items) ∙ ap (map successor_of) c.in_ok-steps.ensures.steps in
    let targets = c.as_slice-in-loop-k.ensures.value ∙ c.in_ok-targets.ensures ∙ ap (λ s. numbers_of s edges) start in
    way_goes_on A c.loop-k.k (built_of c.loop-k.builder) (built_of c.push_steps.new.self) _ _ edges (map move c.as_slice.result.now) c.as_slice-in-loop-k.result.now c.loop-k.invariant is steps targets
    c.in_ok-steps.ensures.fine c.in_ok-push_steps.ensures.built c.in_ok-push_steps.ensures.ready

pub new-requires-2-clause-inside : goal.new-requires-2-clause-inside
new-requires-2-clause-inside g c =
    let A = c.args.automaton.now in
    let whole : c.loop-k.k ≡ A.states = omega (arith, c.loop-k-test.false, c.loop-k.auto.k-end, c.len-k-end.ensures.count) in
    let made = c.in_ok-states.ensures.automaton ∙ c.loop-k.invariant.made ∙ ap (started_to A) whole in
    let fine = subst (λ n. (j : ℕ) → j < n → All IsFineEdge (edges_from A (exchanged A.start j))) whole c.loop-k.invariant.fine in
    subst IsAcceptingGba (sym made) (started_gba A c.invariant.ensures fine)
