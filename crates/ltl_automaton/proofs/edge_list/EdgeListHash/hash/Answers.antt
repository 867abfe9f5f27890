use Rattle.std.proofs.Common.{◌∙◌, ap}
use Rattle.std.specs.Prelude.{fold}
use Rattle.std.specs.Hash as fed
use Rattle.ltl_automaton.proofs.EdgeLaws.{list_fed}
use Rattle.ltl_automaton.proofs.edge_list.EdgeListHash.hash.Goals as goal

pub returns : goal.returns
returns g c =
    list_fed g.E.EdgeType.edge_of g.E.Hash.hash_input g.E.EdgeType.fed g.met.E.EdgeType.feeds g.H.Hasher.write c.args.state.now _ c.self.inside.edges.items (c.hash.ensures ∙ ap (λ xs. fold g.H.Hasher.write c.args.state.now (fed.slice g.E.Hash.hash_input xs)) c.as_slice.ensures.value)
    ∙ ap (λ s. fold g.H.Hasher.write c.args.state.now (fed.slice g.E.EdgeType.fed s)) c.self.view_is
