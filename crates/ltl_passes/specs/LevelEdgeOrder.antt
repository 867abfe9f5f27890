-- The order of the edges to copies: it is linear, and the test of the code finds equal edges.
use Rattle.std.specs.Prelude.{◌≡◌, Bool, List, true, ◌&&◌, map, nat_eq}
use Rattle.std.proofs.Common.{ap, ◌∙◌}
use Rattle.std.specs.Bool.{Decides}
use Rattle.std.specs.Cmp.{first_so, second_so}
use Rattle.std.proofs.lemmas.Bool.Decides.{Decides-eqb}
use Rattle.std.proofs.lemmas.Cmp.{on_total}
use Rattle.ltl_spec.specs.Collections.Sets.{IsLinearOrder, set_of}
use Rattle.ltl_spec.specs.Construction.Levels.{LevelEdge, level_edge_cmp, same_level_state}
use Rattle.ltl_spec.proofs.Collections.Orders.{level_edge_linear}
use Rattle.ltl_spec.proofs.Collections.SortedSets.{set_of_keys}
use Rattle.ltl_spec.proofs.Construction.LevelRuns.{same_level_state_Decides}
use Rattle.ltl_passes.specs.Degeneralize.{level_edge_of}
use Rattle.ltl_automaton.specs.Labels.{number_of_cube}
use Rattle.ltl_passes.specs.declared.degeneralize.LevelEdge as code

-- edges with the same parts are the same
pub level_edge_exact : (e f : code.LevelEdge) → level_edge_of e ≡ level_edge_of f → e ≡ f
level_edge_exact e f h =
    let c = ap (λ (g : LevelEdge). number_of_cube g.cube) h in
    let p = ap (λ (g : LevelEdge). g.copy) h in
    λ i. let g : code.LevelEdge = record { cube = c i; copy = p i } in g

pub level_edge_Decides : (e f : code.LevelEdge) → Decides (nat_eq e.cube f.cube && same_level_state e.copy f.copy) (e ≡ f)
level_edge_Decides e f = (
  (λ t.
      let c = (Decides-eqb e.cube f.cube).0 (first_so _ _ t) in
      let p = (same_level_state_Decides e.copy f.copy).0 (second_so (nat_eq e.cube f.cube) _ t) in
      λ i. let g : code.LevelEdge = record { cube = c i; copy = p i } in g),
  (λ h.
      let c = (Decides-eqb e.cube f.cube).1 (ap (λ (g : code.LevelEdge). g.cube) h) in
      let p = (same_level_state_Decides e.copy f.copy).1 (ap (λ (g : code.LevelEdge). g.copy) h) in
      both _ _ c p),
)
  where
    both : (a b : Bool) → a ≡ true → b ≡ true → (a && b) ≡ true
    both a b p q = ap (λ x. x && b) p ∙ q

-- the comparison of the code
pub level_edge_linear_by_view : IsLinearOrder (λ (e f : code.LevelEdge). level_edge_cmp (level_edge_of e) (level_edge_of f))
level_edge_linear_by_view = record {
  total = on_total level_edge_of level_edge_linear.total;
  exact = λ e f h. level_edge_exact e f (level_edge_linear.exact (level_edge_of e) (level_edge_of f) h);
}

-- sorted edges without duplicates, as edges of the definitions
pub level_edges_set : (es fs : List code.LevelEdge) → es ≡ set_of (λ (e f : code.LevelEdge). level_edge_cmp (level_edge_of e) (level_edge_of f)) fs
    → map level_edge_of es ≡ set_of level_edge_cmp (map level_edge_of fs)
level_edges_set es fs h = ap (map level_edge_of) h ∙ set_of_keys level_edge_cmp level_edge_of fs
