-- The order of the edges of the code: it is linear, and the test of the code finds equal edges.
use Rattle.std.specs.Prelude.{◌≡◌, Bool, true, ◌&&◌, nat_eq}
use Rattle.std.proofs.Common.{ap, ◌∙◌}
use Rattle.std.specs.Bool.{Decides}
use Rattle.std.specs.Cmp.{first_so, second_so}
use Rattle.std.specs.Cmp.Lexicographic.{pointwise, bytes_decides}
use Rattle.std.proofs.lemmas.Bool.Decides.{Decides-eqb}
use Rattle.std.proofs.lemmas.Cmp.{on_total}
use Rattle.ltl_spec.specs.Automata.Automaton.{Edge, edge_cmp}
use Rattle.ltl_spec.specs.Collections.Sets.{IsLinearOrder}
use Rattle.ltl_spec.proofs.Collections.Orders.{edge_linear}
use Rattle.ltl_sets.specs.CubeEq.{same_cube, cube_Decides}
use Rattle.ltl_automaton.specs.EdgeView.{edge_of}
use Rattle.ltl_automaton.specs.declared.edge.Edge as made

-- edges with the same parts are the same
same_parts : (e f : made.Edge) → e.cube ≡ f.cube → e.target ≡ f.target → e.marks ≡ f.marks → e ≡ f
same_parts e f c t m = λ i. let g : made.Edge = record { cube = c i; target = t i; marks = m i } in g

pub edge_exact : (e f : made.Edge) → edge_of e ≡ edge_of f → e ≡ f
edge_exact e f h = same_parts e f (ap (λ (g : Edge). g.cube) h) (ap (λ (g : Edge). g.target) h) (ap (λ (g : Edge). g.marks) h)

-- the test of the code finds exactly the same edges
abbrev pub same_code : made.Edge → made.Edge → Bool
same_code e f = same_cube e.cube f.cube && (nat_eq e.target f.target && pointwise nat_eq e.marks f.marks)

pub edge_Decides : (e f : made.Edge) → Decides (same_code e f) (e ≡ f)
edge_Decides e f = (
  (λ t.
      let rest = second_so (same_cube e.cube f.cube) _ t in
      same_parts e f ((cube_Decides e.cube f.cube).0 (first_so _ _ t)) ((Decides-eqb e.target f.target).0 (first_so _ _ rest)) ((bytes_decides e.marks f.marks).0 (second_so (nat_eq e.target f.target) _ rest))),
  (λ h. both _ _ ((cube_Decides e.cube f.cube).1 (ap (λ (g : made.Edge). g.cube) h))
      (both _ _ ((Decides-eqb e.target f.target).1 (ap (λ (g : made.Edge). g.target) h)) ((bytes_decides e.marks f.marks).1 (ap (λ (g : made.Edge). g.marks) h)))),
)
  where
    both : (a b : Bool) → a ≡ true → b ≡ true → (a && b) ≡ true
    both a b p q = ap (λ x. x && b) p ∙ q

-- the comparison of the code
pub edge_linear_by_view : IsLinearOrder (λ (e f : made.Edge). edge_cmp (edge_of e) (edge_of f))
edge_linear_by_view = record { total = on_total edge_of edge_linear.total; exact = λ e f h. edge_exact e f (edge_linear.exact (edge_of e) (edge_of f) h) }
