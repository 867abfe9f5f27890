use Rattle.std.proofs.Common.{List, ◌∙◌, ap, length, map, Some}
use Rattle.std.specs.Prelude.{slice_index}
use Rattle.ltl_spec.specs.Automata.Automaton.{Edge}
use Rattle.ltl_automaton.specs.CodedEdges.{coded_edge_of}
use Rattle.ltl_passes.specs.Partition.{list_view}
use Rattle.ltl_passes.proofs.ClassLaws.{coded_push, list_seen, list_within}
use Rattle.ltl_passes.proofs.partition.list_signatures_under.Goals as goal

pub retargeted-requires : goal.retargeted-requires
retargeted-requires g c = record { within = list_within c.args.states.now.lists (length c.args.names.now) c.loop-list.list c.list_edges.result.now c.requires.within c.list_edges.ensures }

pub loop-list-preserved : goal.loop-list-preserved
loop-list-preserved g c =
    let lists = c.args.states.now.lists in
    let view = list_view lists (slice_index c.args.names.now) in
    let seen = c.in_ok-view.ensures ∙ list_seen lists (slice_index c.args.names.now) c.loop-list.list (map coded_edge_of c.list_edges.result.now) c.list_edges.ensures in
    coded_push c.loop-list.list view c.loop-list.seen.keys c.signature.new.seen.keys c.loop-list.signatures.items c.push.new.self.items c.in_ok-signature.field-0 c.loop-list.invariant
    (c.in_ok-signature.ensures.distinct c.loop-list.invariant.distinct) c.in_ok-signature.ensures.extends c.in_ok-push.ensures.items (c.in_ok-signature.ensures.place ∙ ap (λ (es : List Edge). Some es) seen)
