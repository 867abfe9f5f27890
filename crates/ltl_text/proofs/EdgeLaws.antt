-- The edges of the code at their places.
use Rattle.std.proofs.Common.{◌≡◌, ◌∙◌, ap, sym, subst, refl, ℕ, ◌<◌, Bool, true, false, ◌&&◌, List, [], ◌∷◌, length, map, slice_get, slice_index_or, Some, arith}
use Rattle.std.specs.Prelude.{◌==◌, All}
use Rattle.std.specs.Cmp.Lexicographic.{pointwise, slice_cmp}
use Rattle.std.specs.Ordering.{is_eq, nat_cmp, ordering_then}
use Rattle.std.proofs.lemmas.Bool.Decides.{nat_tests}
use Rattle.std.proofs.lemmas.Cmp.{tied_itself}
use Rattle.ltl_spec.specs.Transitions.Cubes.{Cube}
use Rattle.ltl_spec.specs.Automata.Automaton as spec
use Rattle.ltl_spec.specs.Automata.Automaton.{edge_cmp}
use Rattle.ltl_spec.specs.Construction.Merging.{same_edge}
use Rattle.ltl_spec.proofs.Collections.FoundLaws.{index_there}
use Rattle.ltl_spec.proofs.Collections.MemberLaws.{at_map, map_length}
use Rattle.ltl_spec.proofs.Collections.Orders.{nat_linear}
use Rattle.ltl_automaton.specs.CodedEdges.{edges_in, labelled_edge_of}
use Rattle.ltl_automaton.specs.declared.coded_edge.CodedEdge.{CodedEdge}
use Rattle.ltl_automaton.specs.declared.labels.Edges as lent
use Rattle.ltl_models.specs.BaView.{target_at}
use Rattle.ltl_text.specs.Options.{edge_at, is_empty}
use Rattle.ltl_text.proofs.BlockLaws.{unequal}

-- the edge that was found
pub cube_is : (es : List spec.Edge) (p : ℕ) (e : spec.Edge) → slice_get es p ≡ Some e → (edge_at es p).cube ≡ e.cube
cube_is es p e h = ap (λ (x : spec.Edge). x.cube) (index_there es p e (record { cube = []; target = 0; marks = [] }) h).1

-- what an index past the end gives
abbrev pub no_edge : CodedEdge
no_edge = record { cube = 0; marks = 0; target = 0 }

pub target_there : (es : lent.Edges) (p : ℕ) (d : CodedEdge) → p < length es.coded.now → target_at (edges_in es) p ≡ (slice_index_or es.coded.now p d).target
target_there es p d within = ap (λ (x : spec.Edge). x.target) (at_map (labelled_edge_of es.labels) es.coded.now p d (record { cube = []; target = 0; marks = [] }) within)

pub other_is : (es : lent.Edges) (p : ℕ) (d : CodedEdge) → p < length es.coded.now → (t : ℕ) → ((slice_index_or es.coded.now p d).target ≡ t → ⊥) → (target_at (edges_in es) p == t) ≡ false
other_is es p d within t h = unequal (target_at (edges_in es) p) t (λ k. h (sym (target_there es p d within) ∙ k))

pub places_within : (es : lent.Edges) (xs : List spec.Edge) (ps : List ℕ) → edges_in es ≡ xs → All (λ p. p < length xs) ps → All (λ p. p < length es.coded.now) ps
places_within es xs ps e h = subst (λ n. All (λ p. p < n) ps) (sym (ap length e) ∙ map_length (labelled_edge_of es.labels) es.coded.now) h

pub some_edges : (es : lent.Edges) (xs : List spec.Edge) → edges_in es ≡ xs → 0 < length es.coded.now → 0 < length xs
some_edges es xs e h = subst (λ n. 0 < n) (sym (map_length (labelled_edge_of es.labels) es.coded.now) ∙ ap length e) h

pub some_by_test : (n : ℕ) → false ≡ (n == 0) → 0 < n
some_by_test n h = grind (arith, nat_tests)

-- the only edge is a loop, where it has this target: it is free where its cube has no literals
pub free_loop : (es : lent.Edges) (k : ℕ) → All (λ e. e.marks ≡ []) (edges_in es) → length es.coded.now ≡ 1 → (slice_index_or es.coded.now 0 no_edge).target ≡ k
    → is_empty (labelled_edge_of es.labels (slice_index_or es.coded.now 0 no_edge)).cube ≡ pointwise same_edge (edges_in es) (record { cube = []; target = k; marks = [] } ∷ [])
free_loop es k plain one target = by es.coded.now one (λ n d l. plain n d l) target
  where
    alone : (c : Cube) (m : List ℕ) → m ≡ [] → is_empty c ≡ is_eq (edge_cmp (record { cube = c; target = k; marks = m }) (record { cube = []; target = k; marks = [] }))
    alone [] m e = sym (λ i. is_eq (ordering_then (tied_itself nat_linear.total k i) (slice_cmp nat_cmp (e i) [])))
    alone (l ∷ ls) m e = refl

    by : (cs : List CodedEdge) → length cs ≡ 1 → All (λ e. e.marks ≡ []) (map (labelled_edge_of es.labels) cs) → (slice_index_or cs 0 no_edge).target ≡ k
        → is_empty (labelled_edge_of es.labels (slice_index_or cs 0 no_edge)).cube ≡ pointwise same_edge (map (labelled_edge_of es.labels) cs) (record { cube = []; target = k; marks = [] } ∷ [])
    by [] one p t = absurd (omega (arith, one))
    by (c ∷ d ∷ ds) one p t = absurd (omega (arith, one))
    by (c ∷ []) one p t =
        let f = labelled_edge_of es.labels c in
        let none : f.marks ≡ [] = p 0 f (omega arith) in
        alone f.cube f.marks none ∙ right_end _ ∙ (λ i. is_eq (edge_cmp (let g : spec.Edge = record { cube = f.cube; target = sym t i; marks = f.marks } in g) (record { cube = []; target = k; marks = [] })) && true)
      where
        right_end : (b : Bool) → b ≡ (b && true)
        right_end true = refl
        right_end false = refl
