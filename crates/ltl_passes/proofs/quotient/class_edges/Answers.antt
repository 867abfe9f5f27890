use Rattle.std.proofs.Common.{◌≡◌, ◌∙◌, ap, subst, sym, map}
use Rattle.std.specs.Prelude.{slice_index}
use Rattle.std.proofs.lemmas.Result.{IfOk-weaker}
use Rattle.ltl_spec.specs.Automata.Automaton.{edge_cmp}
use Rattle.ltl_spec.specs.Collections.Sets.{IsRising}
use Rattle.ltl_spec.specs.Construction.Merging.{retargeted_edge, unimplied_edges}
use Rattle.ltl_spec.proofs.Collections.Orders.{edge_linear}
use Rattle.ltl_spec.proofs.Collections.SetLaws.{IsRising-set_of}
use Rattle.ltl_automaton.specs.CodedEdges.{coded_edge_of, labelled_edge_of}
use Rattle.ltl_passes.specs.Partition.{retargeted_list, thinned}
use Rattle.ltl_passes.proofs.CodedListLaws.{labels_kept, labels_retargeted}
use Rattle.ltl_passes.proofs.TargetLaws.{retargeted_within}
use Rattle.ltl_passes.proofs.quotient.class_edges.Goals as goal

pub unimplied-requires : goal.unimplied-requires
unimplied-requires g c = record {
  tables = c.requires.tables;
  coded = labels_kept c.args.labels.now (slice_index c.args.numbers.now) c.args.edges.now c.in_ok-made.made.items c.requires.coded c.in_ok-made.ensures;
  rising = subst (IsRising edge_cmp) (sym c.in_ok-made.ensures) (IsRising-set_of edge_linear (map (retargeted_edge (slice_index c.args.numbers.now)) (map coded_edge_of c.args.edges.now)));
  within = retargeted_within c.args.numbers.now _ c.args.edges.now c.in_ok-made.made.items c.requires.within c.requires.noted c.in_ok-made.ensures;
}

pub returns-then-keep_implied-clause-edges : goal.returns-then-keep_implied-clause-edges
returns-then-keep_implied-clause-edges g c =
    let l = c.args.labels.now in
    let f = slice_index c.args.numbers.now in
    labels_retargeted l f c.args.edges.now c.in_ok-made.made.items c.requires.coded c.in_ok-made.ensures c.requires.tables
    ∙ ap (λ b. thinned b (retargeted_list f (map (labelled_edge_of l) c.args.edges.now))) (sym c.if-keep_implied.true)

pub returns-then-keep_implied-clause-coded : goal.returns-then-keep_implied-clause-coded
returns-then-keep_implied-clause-coded g c = labels_kept c.args.labels.now (slice_index c.args.numbers.now) c.args.edges.now c.in_ok-made.made.items c.requires.coded c.in_ok-made.ensures

pub returns-clause-edges : goal.returns-clause-edges
returns-clause-edges g c =
    let l = c.args.labels.now in
    let f = slice_index c.args.numbers.now in
    let seen = retargeted_list f (map (labelled_edge_of l) c.args.edges.now) in
    let made = labels_retargeted l f c.args.edges.now c.in_ok-made.made.items c.requires.coded c.in_ok-made.ensures c.requires.tables in
    IfOk-weaker c.unimplied.result (λ es. map (labelled_edge_of l) es.items ≡ unimplied_edges (map (labelled_edge_of l) c.in_ok-made.made.items)) (λ es. map (labelled_edge_of l) es.items ≡ thinned c.args.keep_implied seen)
    (λ es e. e ∙ ap unimplied_edges made ∙ ap (λ b. thinned b seen) (sym c.if-keep_implied.false)) c.unimplied.ensures.edges
