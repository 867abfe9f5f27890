-- The bit vectors of all subformulas.
use Rattle.std.specs.Prelude.{◌≡◌, ℕ, ◌<◌, List, [], length, slice_index_or}
use Rattle.ltl_spec.specs.Semantics.Word.{Lasso}
use Rattle.ltl_syntax.specs.FormulaView.{FormulaView, tree_in, trees}
use Rattle.ltl_word.specs.Evaluation.{IsRowOf}

-- the rows say where the trees of the first nodes hold
abbrev pub AreFirstRows : FormulaView → Lasso → List (List ℕ) → Type 0
AreFirstRows f w rows = (k : ℕ) → k < length rows → IsRowOf f.names w (tree_in (trees f.nodes) k) (slice_index_or rows k [])

-- there is such a row for each node
pub record AreSubformulaRows (f : FormulaView) (w : Lasso) (rows : List (List ℕ)) : Type 0 where
  pub count : length rows ≡ length f.nodes
  pub each : AreFirstRows f w rows
