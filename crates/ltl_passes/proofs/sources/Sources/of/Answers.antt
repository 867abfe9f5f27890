use Rattle.std.proofs.Common.{◌≡◌, ◌<◌, vec_len, length, subst, sym, ◌∙◌}
use Rattle.std.specs.Prelude.{All}
use Rattle.ltl_spec.specs.Automata.Automaton.{Edge}
use Rattle.ltl_automaton.specs.CodedEdges.{coded_edge_of}
use Rattle.ltl_automaton.specs.SharedView.{automaton_of}
use Rattle.ltl_automaton.specs.declared.coded_edge.CodedEdge as made
use Rattle.ltl_models.proofs.Within.{seen_within}
use Rattle.ltl_passes.proofs.sources.Sources.of.Goals as goal

pub add_all-requires-clause-within : goal.add_all-requires-clause-within
add_all-requires-clause-within g c =
    let A = automaton_of c.args.states.now in
    let long : vec_len c.loop-state.made.firsts ≡ length A.states = c.loop-state.invariant ∙ c.requires.long in
    subst (λ m. All (λ (e : made.CodedEdge). e.target < m) c.edges.result.now) (sym long) (seen_within coded_edge_of A (λ (e : Edge). e.target < length A.states) c.loop-state.state c.edges.result.now c.edges.ensures c.requires.within)
