use Rattle.std.proofs.Common.{◌≡◌, ◌∙◌, ℕ, ◌/◌, ◌%◌, ap, sym, length}
use Rattle.ltl_spec.specs.Automata.Automaton.{state_at}
use Rattle.ltl_spec.proofs.Collections.MemberLaws.{map_length}
use Rattle.ltl_automaton.specs.CodedEdges.{edges_in, labelled_edge_of}
use Rattle.ltl_automaton.specs.EdgeView.{edge_of}
use Rattle.ltl_check.specs.ProductView.{edge_from, joined_step, number_in, second_edges}
use Rattle.ltl_check.proofs.JoinLaws.{edge_named, look_found, second_seen, look_missed}
use Rattle.ltl_check.proofs.product.ProductGraph.at.Goals as goal

pub joined-requires-clause-named : goal.joined-requires-clause-named
joined-requires-clause-named g c =
    edge_named (length c.args.self.now.numbers.now) c.args.self.now.second.now c.args.s.second (edges_in c.edges-others.result) _ _ c.args.self.now.named c.edges-others.ensures.edges c.get-other.ensures

pub returns-in-Some-clause-found : goal.returns-in-Some-clause-found
returns-in-Some-clause-found g c =
    let A = g.F.Operand.automaton_of c.args.self.now.first.now in
    let B = c.args.self.now.second.now in
    let s = c.args.s in
    let k = c.args.k in
    let width = length (second_edges A B s.second) in
    let long : length c.edges-others.result.coded.now ≡ width = sym (map_length (labelled_edge_of c.edges-others.result.labels) c.edges-others.result.coded.now) ∙ ap length c.edges-others.ensures.edges in
    let place : k / c.len.result ≡ k / width = ap (λ n. k / n) (c.len.ensures ∙ long) in
    let e = edge_from A s.first (k / width) in
    let f = edge_of c.get-other.result in
    let here = λ (n : ℕ). edge_from A s.first n in
    let second = second_seen (edges_in c.edges-others.result) (second_edges A B s.second) _ (k % width) f c.edges-others.ensures.edges (ap (λ n. k % n) (c.len-2.ensures ∙ long)) c.get-other.ensures in
    let found = look_found A.sets (state_at B s.second).accepting (number_in c.args.self.now.numbers.now) e f c.cube.result c.target.result c.marks.result c.joined.result c.marks-in-Some.result c.letter.result c.in-Some.cube
    (c.cube.ensures ∙ ap (λ n. (here n).cube) place) (c.target.ensures ∙ ap (λ n. (here n).target) place) (c.marks.ensures ∙ ap (λ n. (here n).marks) place) c.joined.ensures c.in-Some.is c.marks-in-Some.ensures c.letter.ensures in
    found ∙ (λ i. joined_step A.sets (state_at B s.second).accepting (number_in c.args.self.now.numbers.now) e (sym second i))

pub returns-in-None-clause-found : goal.returns-in-None-clause-found
returns-in-None-clause-found g c =
    let A = g.F.Operand.automaton_of c.args.self.now.first.now in
    let B = c.args.self.now.second.now in
    let s = c.args.s in
    let k = c.args.k in
    let width = length (second_edges A B s.second) in
    let long : length c.edges-others.result.coded.now ≡ width = sym (map_length (labelled_edge_of c.edges-others.result.labels) c.edges-others.result.coded.now) ∙ ap length c.edges-others.ensures.edges in
    let place : k / c.len.result ≡ k / width = ap (λ n. k / n) (c.len.ensures ∙ long) in
    let e = edge_from A s.first (k / width) in
    let f = edge_of c.get-other.result in
    let second = second_seen (edges_in c.edges-others.result) (second_edges A B s.second) _ (k % width) f c.edges-others.ensures.edges (ap (λ n. k % n) (c.len-2.ensures ∙ long)) c.get-other.ensures in
    let missed = look_missed A.sets (state_at B s.second).accepting (number_in c.args.self.now.numbers.now) e f c.cube.result c.joined.result (c.cube.ensures ∙ ap (λ n. (edge_from A s.first n).cube) place) c.joined.ensures c.in-None.is in
    missed ∙ (λ i. joined_step A.sets (state_at B s.second).accepting (number_in c.args.self.now.numbers.now) e (sym second i))
