-- Bit vectors that have the truth of a formula at each position of a word.
use Rattle.std.specs.Prelude.{◌≡◌, ◌+◌, ℕ, ◌<◌, ◌≤◌, ◌/◌, Bool, true, false, IsTrue, List, [], length, slice_index_or, Option, Some, None}
use Rattle.std.specs.Bool.{Decides}
use Rattle.ltl_spec.specs.Semantics.Word.{Name, Lasso}
use Rattle.ltl_spec.specs.Semantics.Satisfaction.{HoldsUntil, Satisfies}
use Rattle.ltl_spec.specs.Formulas.Formula.{Formula, Proposition, Unary, Binary, Always, Eventually, Until, Release}
use Rattle.ltl_syntax.specs.declared.operators.Node.{Node}
use Rattle.ltl_syntax.specs.declared.operators.Node.TheVariants as node
use Rattle.ltl_syntax.specs.FormulaView.{FormulaView, tree_in, trees}
use Rattle.ltl_word.specs.Rows.{IsRow, bit_of, step_of, turned, left_at, right_at}
use Rattle.ltl_word.specs.LassoView.{size}
use Rattle.ltl_word.specs.Uses.{row_by}

-- the row says where the formula holds
abbrev pub IsRowOf : List Name → Lasso → Formula → List ℕ → Type 0
IsRowOf names w F bits = IsRow (size w) (λ i. Satisfies names w i F) bits

-- the rows of the propositions, by number
abbrev pub AreNameRows : List Name → Lasso → List (List ℕ) → Type 0
AreNameRows names w rows = (length rows ≡ length names) × ((p : ℕ) → p < length names → IsRowOf names w (Proposition p) (slice_index_or rows p []))

-- the row of the node of that number is that of its tree
abbrev pub IsRowAt : FormulaView → Lasso → List (List ℕ) → List (List ℕ) → ℕ → Type 0
IsRowAt f w names rows k = IsRowOf f.names w (tree_in (trees f.nodes) k) (row_by names (slice_index_or rows k []) (slice_index_or f.nodes k (node.Constant false)))

-- the rows of the node's operands are those of their trees
abbrev pub AreOperandRows : FormulaView → Lasso → List (List ℕ) → List (List ℕ) → Node → Type 0
AreOperandRows f w names rows (node.Constant b) = Unit {0}
AreOperandRows f w names rows (node.Proposition p) = Unit {0}
AreOperandRows f w names rows (node.Unary op a) = IsRowAt f w names rows a
AreOperandRows f w names rows (node.Binary op a b) = IsRowAt f w names rows a × IsRowAt f w names rows b

-- the rows are those of the first trees, but for rows that are used no more
abbrev pub AreRows : FormulaView → Lasso → List (List ℕ) → List ℕ → List (List ℕ) → Type 0
AreRows f w names last_uses rows = (k : ℕ) → k < length rows → length rows ≤ slice_index_or last_uses k 0 → IsRowAt f w names rows k

-- the row, or its opposite, says where the right one comes and the left one holds until then
abbrev pub IsUntilRow : ℕ → ℕ → Bool → Option (List ℕ) → List ℕ → List ℕ → Type 0
IsUntilRow stem count negated left right bits =
    (length bits ≡ count / 64 + 1)
    × ((i : ℕ) → i < count → Decides (turned negated (bit_of bits i)) (HoldsUntil (step_of stem count) (λ j. IsTrue (left_at negated left j)) (λ j. IsTrue (right_at negated right j)) i))

-- a left row, if there is one, is long enough
abbrev pub IsLong : ℕ → Option (List ℕ) → Type 0
IsLong count None = Unit {0}
IsLong count (Some bits) = count / 64 < length bits

-- `left U right` of formulas, or the dual `left V right`; without a left one `<>right`, or the dual `[]right`
abbrev pub going_of : Bool → Option Formula → Formula → Formula
going_of false None G = Unary Eventually G
going_of true None G = Unary Always G
going_of false (Some F) G = Binary Until F G
going_of true (Some F) G = Binary Release F G

-- there is a row exactly where there is a formula, and says where it holds
abbrev pub IsRowIf : List Name → Lasso → Option Formula → Option (List ℕ) → Type 0
IsRowIf names w None None = Unit {0}
IsRowIf names w (Some F) (Some bits) = IsRowOf names w F bits
IsRowIf names w _ _ = ⊥
