use Rattle.std.proofs.Common.{◌≡◌, ◌<◌, ◌∙◌, ap, arith, sym, subst, length, map, refl}
use Rattle.std.specs.Prelude.{All, slice_index}
use Rattle.std.proofs.lemmas.List.{length-map}
use Rattle.ltl_spec.specs.Automata.Automaton.{Edge, state_at}
use Rattle.ltl_automaton.specs.CodedEdges.{coded_edge_of, tables_of}
use Rattle.ltl_automaton.specs.Labels.{IsCoded, labelled}
use Rattle.ltl_automaton.specs.SharedView.{automaton_of}
use Rattle.ltl_automaton.specs.declared.coded_edge.CodedEdge as made
use Rattle.ltl_automaton.proofs.TableLaws.{labels_seen, state_labels}
use Rattle.ltl_passes.proofs.PartitionedLaws.{one_list}
use Rattle.ltl_models.proofs.Within.{seen_within}
use Rattle.ltl_passes.specs.Partition.{number_in, retargeted_list, thinned}
use Rattle.ltl_passes.proofs.CodedListLaws.{labels_coded}
use Rattle.ltl_passes.proofs.NumberLaws.{numbers_within}
use Rattle.ltl_passes.proofs.PartitionedLaws.{class_again, class_inside, class_next, classes_count}
use Rattle.ltl_passes.proofs.quotient.Partitioned.push_class.Goals as goal

pub accepting-accepting-requires : goal.accepting-accepting-requires
accepting-accepting-requires g c =
    let p = c.args.self.now in
    let had = c.requires.partitioned in
    class_inside p.names.now p.numbering.classes.items p.numbering.numbers.items _ _ c.args.class had.named had.numbering had.long c.as_slice-classes.ensures.value c.requires.within

pub list-requires : goal.list-requires
list-requires g c =
    let p = c.args.self.now in
    let had = c.requires.partitioned in
    class_inside p.names.now p.numbering.classes.items p.numbering.numbers.items _ _ c.args.last had.named had.numbering had.long c.as_slice-classes.ensures.value (omega (arith, c.if-last-class.true, c.requires.within))

pub list-requires-then-last-class : goal.list-requires-then-last-class
list-requires-then-last-class g c =
    let p = c.args.self.now in
    let had = c.requires.partitioned in
    class_inside p.names.now p.numbering.classes.items p.numbering.numbers.items _ _ c.args.class had.named had.numbering had.long c.as_slice-classes.ensures.value c.requires.within

pub push_like-requires : goal.push_like-requires
push_like-requires g c =
    let p = c.args.self.now in
    let count = classes_count (tables_of p.labels) (automaton_of p.states.now) p.keep_implied p.names.now p.numbering.classes.items p.numbering.numbers.items c.requires.partitioned.numbering (automaton_of c.args.made.now) c.args.class c.requires.made c.requires.within in
    omega (arith, count, c.if-last-class.true)

pub edges-requires : goal.edges-requires
edges-requires g c =
    let p = c.args.self.now in
    let had = c.requires.partitioned in
    class_inside p.names.now p.numbering.classes.items p.numbering.numbers.items _ _ c.args.class had.named had.numbering had.long c.as_slice-classes.ensures.value c.requires.within

pub class_edges-requires-clause-coded : goal.class_edges-requires-clause-coded
class_edges-requires-clause-coded g c =
    let p = c.args.self.now in
    seen_within coded_edge_of (automaton_of p.states.now) (IsCoded (tables_of p.labels)) (slice_index c.as_slice-classes.result.now c.args.class) c.edges.result.now c.edges.ensures c.requires.partitioned.coded

pub class_edges-requires-clause-within : goal.class_edges-requires-clause-within
class_edges-requires-clause-within g c =
    let p = c.args.self.now in
    let A = automaton_of p.states.now in
    let count : length c.as_slice.result.now ≡ length A.states =
    ap length c.as_slice.ensures.value ∙ ap length c.requires.partitioned.numbering.numbered ∙ length-map p.names.now (number_in p.numbering.classes.items) ∙ c.requires.partitioned.long in
    subst (λ n. All (λ (e : made.CodedEdge). e.target < n) c.edges.result.now) (sym count)
    (seen_within coded_edge_of A (λ (e : Edge). e.target < length A.states) (slice_index c.as_slice-classes.result.now c.args.class) c.edges.result.now c.edges.ensures c.requires.partitioned.within)

pub class_edges-requires-clause-noted : goal.class_edges-requires-clause-noted
class_edges-requires-clause-noted g c =
    let p = c.args.self.now in
    subst (All (λ k. k < length c.args.noted.now)) (sym c.as_slice.ensures.value)
    (subst (λ n. All (λ k. k < n) p.numbering.numbers.items) (sym c.requires.noted) (numbers_within p.names.now p.numbering.classes.items p.numbering.numbers.items c.requires.partitioned.numbering))

pub returns-in_ok-push_like-clause-made : goal.returns-in_ok-push_like-clause-made
returns-in_ok-push_like-clause-made g c =
    let p = c.args.self.now in
    let A = automaton_of p.states.now in
    let had = c.requires.partitioned in
    let seen = c.as_slice-classes.ensures.value in
    let same = one_list p.states.now.lists c.list.result c.list-then-last-class.result _ _ c.if-list.true c.list.ensures.edges c.list-then-last-class.ensures.edges in
    class_again (tables_of p.labels) A p.keep_implied p.names.now p.numbering.classes.items p.numbering.numbers.items had.numbering had.within had.long (automaton_of c.args.made.now) (automaton_of c.push_like.new.self) c.args.class c.args.last
    c.accepting-accepting.result c.requires.made c.requires.within c.if-last-class.true
    (subst (λ cs. (state_at A (slice_index cs c.args.last)).edges ≡ (state_at A (slice_index cs c.args.class)).edges) seen same) c.in_ok-push_like.ensures.ok
    (subst (λ cs. c.accepting-accepting.result ≡ (state_at A (slice_index cs c.args.class)).accepting) seen c.accepting-accepting.ensures)

pub returns-in_ok-push-clause-made : goal.returns-in_ok-push-clause-made
returns-in_ok-push-clause-made g c =
    let p = c.args.self.now in
    let A = automaton_of p.states.now in
    let l = p.labels in
    let t = tables_of l in
    let had = c.requires.partitioned in
    let seen = c.as_slice-classes.ensures.value in
    let es = c.in_ok-edges.edges.items in
    let labels = state_labels l t A (slice_index c.as_slice-classes.result.now c.args.class) c.edges.result.now refl c.edges.ensures in
    let edges = sym (labels_seen l es) ∙ c.in_ok-edges.ensures.edges
    ∙ (λ i. thinned p.keep_implied (retargeted_list (slice_index (c.as_slice.ensures.value i)) (labels i)))
    ∙ ap (λ cs. thinned p.keep_implied (retargeted_list (slice_index p.numbering.numbers.items) (state_at (labelled t A) (slice_index cs c.args.class)).edges)) seen in
    class_next t A p.keep_implied p.names.now p.numbering.classes.items p.numbering.numbers.items had.numbering had.within had.long (automaton_of c.args.made.now) (automaton_of c.push.new.self) c.args.class
    c.accepting-accepting.result (map coded_edge_of es) c.requires.made c.requires.within c.in_ok-push.ensures.ok
    (subst (λ cs. c.accepting-accepting.result ≡ (state_at A (slice_index cs c.args.class)).accepting) seen c.accepting-accepting.ensures) edges (labels_coded l es c.in_ok-edges.ensures.coded)
