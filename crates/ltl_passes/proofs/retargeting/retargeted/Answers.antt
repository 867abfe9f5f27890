use Rattle.std.proofs.Common.{refl, ◌∙◌, ap}
use Rattle.ltl_spec.specs.Collections.Sets.{set_of}
use Rattle.ltl_spec.specs.Automata.Automaton.{edge_cmp}
use Rattle.ltl_automaton.proofs.EdgeLaws.{edges_sorted}
use Rattle.ltl_automaton.specs.CodedEdges.{coded_edge_of}
use Rattle.ltl_passes.proofs.retargeting.retargeted.Goals as goal

pub returns : goal.returns
returns g c =
    edges_sorted coded_edge_of (λ e f. edge_cmp (coded_edge_of e) (coded_edge_of f)) (λ e f. refl) c.sort_dedup.new.items.items c.in_ok-made.made.items c.sort_dedup.ensures
    ∙ ap (set_of edge_cmp) c.in_ok-made.ensures
