use Rattle.std.proofs.Common.{◌≡◌, ◌<◌, true, false, length, map, sym, ◌∙◌, ap, subst}
use Rattle.std.specs.Prelude.{All, slice_index}
use Rattle.ltl_spec.specs.Automata.Automaton.{Edge}
use Rattle.ltl_automaton.specs.CodedEdges.{coded_edge_of}
use Rattle.ltl_automaton.specs.SharedView.{automaton_of}
use Rattle.ltl_automaton.specs.declared.coded_edge.CodedEdge as code
use Rattle.ltl_models.proofs.Within.{seen_within}
use Rattle.ltl_passes.specs.Partition.{retargeted_list}
use Rattle.ltl_passes.specs.Worklist.{LeadsWithin, last_name, own_view, edge_view}
use Rattle.ltl_passes.proofs.OwnerLaws.{owner_view}
use Rattle.ltl_passes.proofs.worklist.Merger.owner.Goals as goal

pub retargeted-requires : goal.retargeted-requires
retargeted-requires g c =
    let A = automaton_of c.args.states.now in
    let long : length c.as_slice.result.now ≡ length A.states = ap length c.as_slice.ensures.value ∙ c.requires.merger.long in
    record { within = subst (λ m. All (λ (e : code.CodedEdge). e.target < m) c.edges.result.now) (sym long) (seen_within coded_edge_of A (λ (e : Edge). e.target < length A.states) c.args.state c.edges.result.now c.edges.ensures c.requires.within) }

pub returns-then-accepting : goal.returns-then-accepting
returns-then-accepting g c =
    let A = automaton_of c.args.states.now in
    let w = c.requires.merger in
    let names = c.args.self.now.classes.names.items in
    let within : LeadsWithin (last_name A) (length A.states) names = subst (λ n. LeadsWithin (last_name A) n names) w.long w.within.names in
    let made : map coded_edge_of c.in_ok-edges.edges.items ≡ retargeted_list (slice_index names) (map coded_edge_of c.edges.result.now) = c.in_ok-edges.ensures ∙ ap (λ ns. retargeted_list (slice_index ns) (map coded_edge_of c.edges.result.now)) c.as_slice.ensures.value in
    let view = owner_view A names within c.args.state true (map coded_edge_of c.edges.result.now) (map coded_edge_of c.in_ok-edges.edges.items) (sym c.if-accepting.true ∙ c.accepting.ensures) c.edges.ensures made in
    let r = c.in_ok-owner.ensures.owners (length A.states) (own_view A) (edge_view A true) c.requires.state view w.accepting in
    record { merger = record { long = w.long; within = w.within; accepting = r.0; others = w.others }; inside = r.1; same = r.2 }

pub returns : goal.returns
returns g c =
    let A = automaton_of c.args.states.now in
    let w = c.requires.merger in
    let names = c.args.self.now.classes.names.items in
    let within : LeadsWithin (last_name A) (length A.states) names = subst (λ n. LeadsWithin (last_name A) n names) w.long w.within.names in
    let made : map coded_edge_of c.in_ok-edges.edges.items ≡ retargeted_list (slice_index names) (map coded_edge_of c.edges.result.now) = c.in_ok-edges.ensures ∙ ap (λ ns. retargeted_list (slice_index ns) (map coded_edge_of c.edges.result.now)) c.as_slice.ensures.value in
    let view = owner_view A names within c.args.state false (map coded_edge_of c.edges.result.now) (map coded_edge_of c.in_ok-edges.edges.items) (sym c.if-accepting.false ∙ c.accepting.ensures) c.edges.ensures made in
    let r = c.in_ok-owner-2.ensures.owners (length A.states) (own_view A) (edge_view A false) c.requires.state view w.others in
    record { merger = record { long = w.long; within = w.within; accepting = w.accepting; others = r.0 }; inside = r.1; same = r.2 }
