-- The edges of the code at their places, and facts of each row.
use Rattle.std.proofs.Common.{◌≡◌, ◌∙◌, ap, sym, ℕ, ◌<◌, List, length, map, slice_index_or}
use Rattle.ltl_hoa.specs.declared.marked.MarkedEdge.{MarkedEdge}
use Rattle.ltl_hoa.specs.MarkedView.{edge_of}
use Rattle.ltl_models.specs.BaView.{target_at}
use Rattle.ltl_models.proofs.PlacedLaws.{key_of}
use Rattle.ltl_pictures.proofs.EdgeLaws.{target_there}

-- an edge of the code at its place
pub placed_here : (edges : List MarkedEdge) (k : ℕ) (e : MarkedEdge) → k < length edges → e ≡ slice_index_or edges k e → key_of e.target k ≡ key_of (target_at (map edge_of edges) k) k
placed_here edges k e l h = ap (λ t. key_of t k) (ap (λ (f : MarkedEdge). f.target) h ∙ sym (target_there edges k e l))

-- a fact of each of the first n rows
pub record Rows {X : Type 0} (P : ℕ → X → Type 0) (d : X) (n : ℕ) (xs : List X) : Type 0 where
  pub long : length xs ≡ n
  pub each : (k : ℕ) → k < n → P k (slice_index_or xs k d)
