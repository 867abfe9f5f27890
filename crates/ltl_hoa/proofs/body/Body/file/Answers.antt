use Rattle.std.proofs.Common.{◌≡◌, ◌∙◌, ◌++◌, ap, map, List}
use Rattle.ltl_hoa.proofs.BodyLaws.{filed_edges}
use Rattle.ltl_spec.specs.Automata.Automaton.{Edge}
use Rattle.ltl_hoa.specs.MarkedView.{edge_of}
use Rattle.ltl_hoa.specs.BodyView.{BodyView, filed}
use Rattle.ltl_hoa.proofs.body.Body.file.Goals as goal

pub returns : goal.returns
returns g c =
    let With : List (List Edge) → BodyView → BodyView = λ es v. record v { edges = es } in
    let inside : BodyView = record {
      counts = c.self.inside.counts;
      defined = c.self.inside.defined.items;
      edges = map (λ s. map edge_of s.items) c.self.inside.edges.items;
      made = c.self.inside.made;
      at = c.self.inside.at;
      sets = c.self.inside.sets;
      label = c.self.inside.label;
      cubes = c.self.inside.cubes.items;
      target = c.self.inside.target;
      own = c.self.inside.own;
    } in
    let more : List Edge = map (λ d. record { cube = d; target = c.self.inside.target; marks = c.self.inside.own }) c.self.inside.cubes.items in
    let cubes : c.as_slice.result.now ≡ c.self.inside.cubes.items = c.as_slice.ensures in
    let put : map edge_of c.file_all.new.edges.items ≡ map edge_of c.index_mut.result.now.items ++ more =
    c.in_ok-file_all.ensures ∙ ap (λ cs. map edge_of c.index_mut.result.now.items ++ map (λ d. record { cube = d; target = c.self.inside.target; marks = c.self.inside.own }) cs) cubes in
    ap (λ es. With es inside) (filed_edges (λ s. map edge_of s.items) c.self.inside.edges.items c.self.inside.at c.self.inside.counts.states c.index_mut.result.now c.file_all.new.edges more
    c.index_mut.ensures.value c.self.invariant.at c.self.invariant.edges put)
    ∙ ap filed c.self.view_is
