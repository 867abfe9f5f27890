-- Which edges a drawing draws.
use Rattle.std.specs.Prelude.{◌≡◌, ℕ, ◌<◌, ◌↔◌, List, length, map, sum_by, All}
use Rattle.ltl_spec.specs.Collections.Sets.{Has}
use Rattle.ltl_spec.specs.Collections.Lists.{HasNoRepeats}
use Rattle.ltl_spec.specs.Automata.Automaton.{Edge}
use Rattle.ltl_hoa.specs.MarkedView.{HasPropositionsBelow}
use Rattle.ltl_text.specs.Options.{edge_at}
use Rattle.ltl_pictures.specs.Picture.{Arrow, arrows}

-- the edges' propositions are among the first n
abbrev pub AreNamed : ℕ → List Edge → Type 0
AreNamed n es = All (λ e. HasPropositionsBelow n e.cube) es

-- an arrow from the state to the edge's target represents the edge with this index
abbrev pub IsDrawn : ℕ → List Edge → ℕ → Type 0
IsDrawn k es p = (a : Arrow) × Has (arrows k es) a × (a.from ≡ k) × (a.to ≡ (edge_at es p).target) × Has a.places p

-- The arrows from a state represent each of its edges once, and no other edge; no two have the same target
pub record AreDrawn (k : ℕ) (es : List Edge) : Type 0 where
  pub drawn : (p : ℕ) → (p < length es) ↔ IsDrawn k es p
  pub counted : sum_by (λ a. length a.places) (arrows k es) ≡ length es
  pub joined : HasNoRepeats (map (λ a. a.to) (arrows k es))
