use Rattle.std.proofs.Common.{◌≡◌, ◌∙◌, ◌<◌, ℕ, List, arith, length, map}
use Rattle.std.specs.Prelude.{slice_index_or, All}
use Rattle.std.proofs.lemmas.List.{get_or_default}
use Rattle.ltl_automaton.specs.CodedEdges.{coded_edge_of}
use Rattle.ltl_automaton.specs.Labels.{coded_edge}
use Rattle.ltl_automaton.specs.LabelTables.{HasRanks, ranked_edge}
use Rattle.ltl_automaton.specs.declared.coded_edge.CodedEdge as numbered
use Rattle.ltl_automaton.specs.declared.ranks.Ranks as ranking
use Rattle.ltl_automaton.proofs.RelabelLaws.{replaced, replaced_none, seen_done, seen_next, seen_there}
use Rattle.ltl_automaton.proofs.ranks.Ranks.relabel.Goals as goal

-- the edge at a place
abbrev edge_at : List numbered.CodedEdge → ℕ → numbered.CodedEdge
edge_at edges i = slice_index_or edges i (record { cube = 0; marks = 0; target = 0 })

within : {A : Type 0} (r : ranking.Ranks A) (i : ℕ) (edges now : List numbered.CodedEdge) → map coded_edge_of now ≡ replaced (ranked_edge r) i (map coded_edge_of edges) → i < length edges → All (HasRanks r) (map coded_edge_of edges)
    → HasRanks r (coded_edge_of (edge_at now i))
within r i edges now e l a = seen_there coded_edge_of (ranked_edge r) i edges now e (HasRanks r) _ l a

pub loop-i-init : goal.loop-i-init
loop-i-init g c = replaced_none (ranked_edge c.args.self.now) (map coded_edge_of c.args.edges.now)

pub index-requires : goal.index-requires
index-requires g c =
    let r = c.args.self.now in
    let w = within r c.loop-i.i c.args.edges.now c.loop-i.edges c.loop-i.invariant c.loop-i-test.true c.requires in
    omega (arith, r.cubes.ok.0, w.cube)

pub index-requires-in-loop-i : goal.index-requires-in-loop-i
index-requires-in-loop-i g c =
    let r = c.args.self.now in
    let w = within r c.loop-i.i c.args.edges.now c.loop-i.edges c.loop-i.invariant c.loop-i-test.true c.requires in
    omega (arith, r.marks.ok.0, w.marks)

pub loop-i-preserved : goal.loop-i-preserved
loop-i-preserved g c =
    let r = c.args.self.now in
    let x = edge_at c.loop-i.edges c.loop-i.i in
    let w = within r c.loop-i.i c.args.edges.now c.loop-i.edges c.loop-i.invariant c.loop-i-test.true c.requires in
    let cube = c.index.ensures ∙ get_or_default r.cubes.items x.cube _ 0 w.cube in
    let marks = c.index-in-loop-i.ensures ∙ get_or_default r.marks.items x.marks _ 0 w.marks in
    let is : coded_edge c.index.result.now x.target c.index-in-loop-i.result.now ≡ ranked_edge r (coded_edge_of x) = λ i. coded_edge (cube i) x.target (marks i) in
    seen_next coded_edge_of (ranked_edge r) c.loop-i.i c.args.edges.now c.loop-i.edges c.loop-i.invariant _ _ c.loop-i-test.true is

pub returns : goal.returns
returns g c = seen_done coded_edge_of (ranked_edge c.args.self.now) c.loop-i.i c.args.edges.now c.loop-i.edges c.loop-i.invariant (omega (arith, c.loop-i-test.false))
