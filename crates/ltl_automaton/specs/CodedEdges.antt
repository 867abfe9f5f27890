-- The edges of the code whose labels are numbers: their view, their order and their hash.
use Rattle.std.specs.Prelude.{◌≡◌, ℕ, ◌+◌, ◌*◌, ◌%◌, ◌^◌, Bool, true, ◌&&◌, List, IsTrue, map, nat_eq, slice_index_or, All}
use Rattle.std.proofs.Common.{ap, ◌∙◌}
use Rattle.std.specs.Bool.{Decides}
use Rattle.std.specs.Cmp.{first_so, second_so}
use Rattle.std.specs.Hash as fed
use Rattle.std.proofs.lemmas.Bool.Decides.{Decides-eqb}
use Rattle.std.proofs.lemmas.Cmp.{on_total}
use Rattle.ltl_spec.specs.Automata.Automaton.{Edge, edge_cmp}
use Rattle.ltl_spec.specs.Collections.Sets.{IsLinearOrder}
use Rattle.ltl_spec.proofs.Collections.Orders.{edge_linear}
use Rattle.ltl_automaton.specs.Labels.{Tables, IsCoded, coded_edge, labelled_edge, number_of_cube}
use Rattle.ltl_automaton.specs.declared.coded_edge.CodedEdge as made
use Rattle.ltl_automaton.specs.declared.label_table.LabelTable as kept
use Rattle.ltl_automaton.specs.declared.labels.Labels as slices
use Rattle.ltl_automaton.specs.declared.labels.Edges as lent

-- the edge with numbers for its labels
abbrev pub coded_edge_of : made.CodedEdge → Edge
coded_edge_of e = coded_edge e.cube e.target e.marks

-- the tables that are lent
abbrev pub tables_of : slices.Labels → Tables
tables_of l = record { cubes = l.cubes.now; marks = l.marks.now }

-- the tables that are kept
abbrev pub table_of : {A : Type 0} → kept.LabelTable A → Tables
table_of t = record { cubes = t.cubes.items; marks = t.marks.items }

-- the edge with its labels
abbrev pub labelled_edge_of : slices.Labels → made.CodedEdge → Edge
labelled_edge_of l e = labelled_edge (tables_of l) (coded_edge_of e)

-- edges that are lent, with their labels
abbrev pub edges_in : lent.Edges → List Edge
edges_in es = map (labelled_edge_of es.labels) es.coded.now

-- the numbers of these edges are in the tables
abbrev pub HaveLabels : slices.Labels → List made.CodedEdge → Type 0
HaveLabels l es = All (λ e. IsCoded (tables_of l) (coded_edge_of e)) es

-- what `hash` feeds to a hasher, for an edge with numbers for its labels
abbrev pub coded_fed : Edge → List (List ℕ)
coded_fed e = fed.usize ((e.target * 11400714819323198485 % 2 ^ 64 + (number_of_cube e.cube * 4294967296 % 2 ^ 64 + slice_index_or e.marks 0 0) % 2 ^ 64) % 2 ^ 64)

abbrev pub hash_of_coded : made.CodedEdge → List (List ℕ)
hash_of_coded e = coded_fed (coded_edge_of e)

-- edges with the same parts are the same
same_parts : (e f : made.CodedEdge) → e.cube ≡ f.cube → e.marks ≡ f.marks → e.target ≡ f.target → e ≡ f
same_parts e f c m t = λ i. let g : made.CodedEdge = record { cube = c i; marks = m i; target = t i } in g

pub coded_exact : (e f : made.CodedEdge) → coded_edge_of e ≡ coded_edge_of f → e ≡ f
coded_exact e f h =
    same_parts e f (ap (λ (g : Edge). number_of_cube g.cube) h) (ap (λ (g : Edge). slice_index_or g.marks 0 0) h) (ap (λ (g : Edge). g.target) h)

-- the test of the code finds exactly the same edges
abbrev pub same_coded : made.CodedEdge → made.CodedEdge → Bool
same_coded e f = nat_eq e.cube f.cube && (nat_eq e.marks f.marks && nat_eq e.target f.target)

pub coded_Decides : (e f : made.CodedEdge) → Decides (same_coded e f) (e ≡ f)
coded_Decides e f = (
  (λ t.
      let rest = second_so (nat_eq e.cube f.cube) _ t in
      same_parts e f ((Decides-eqb e.cube f.cube).0 (first_so _ _ t)) ((Decides-eqb e.marks f.marks).0 (first_so _ _ rest)) ((Decides-eqb e.target f.target).0 (second_so (nat_eq e.marks f.marks) _ rest))),
  (λ h. both _ _ ((Decides-eqb e.cube f.cube).1 (ap (λ (g : made.CodedEdge). g.cube) h))
      (both _ _ ((Decides-eqb e.marks f.marks).1 (ap (λ (g : made.CodedEdge). g.marks) h)) ((Decides-eqb e.target f.target).1 (ap (λ (g : made.CodedEdge). g.target) h)))),
)
  where
    both : (a b : Bool) → a ≡ true → b ≡ true → (a && b) ≡ true
    both a b p q = ap (λ x. x && b) p ∙ q

-- the comparison of the code
pub coded_linear_by_view : IsLinearOrder (λ (e f : made.CodedEdge). edge_cmp (coded_edge_of e) (coded_edge_of f))
coded_linear_by_view = record { total = on_total coded_edge_of edge_linear.total; exact = λ e f h. coded_exact e f (edge_linear.exact (coded_edge_of e) (coded_edge_of f) h) }

-- equal edges feed the same
pub hash_of_same_coded : (e f : made.CodedEdge) → IsTrue (same_coded e f) → hash_of_coded e ≡ hash_of_coded f
hash_of_same_coded e f t = ap hash_of_coded ((coded_Decides e f).0 t)
