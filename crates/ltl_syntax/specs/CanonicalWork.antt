-- The stack of the printer, and the text that is still to be written.
use Rattle.std.specs.Prelude.{ℕ, ◌+◌, ◌<◌, List, [], ◌∷◌, ◌++◌, length, slice_index_or, codes, false}
use Rattle.ltl_spec.specs.Semantics.Word.{Name}
use Rattle.ltl_spec.specs.Formulas.Formula as spec
use Rattle.ltl_spec.specs.Formulas.Canonical.{formula_text, binary_text}
use Rattle.ltl_syntax.specs.declared.operators.Node.{Node}
use Rattle.ltl_syntax.specs.declared.operators.Node.TheVariants.{Constant}
use Rattle.ltl_syntax.specs.declared.canonical.Task.{Task}
use Rattle.ltl_syntax.specs.declared.canonical.Task.TheVariants.{Visit, Middle, Close}
use Rattle.ltl_syntax.specs.FormulaView.{StandsAt, tree_in, binary_of}

-- each node stands behind its operands, and its proposition is one of so many
abbrev pub HasOperands : ℕ → List Node → Type 0
HasOperands count nodes = (i : ℕ) → i < length nodes → StandsAt count i (slice_index_or nodes i (Constant false))

-- how many operators and operands a formula has, where a binary operator counts for its brackets too
abbrev pub size : spec.Formula → ℕ
size (spec.Constant b) = 1
size (spec.Proposition p) = 1
size (spec.Unary op a) = size a + 1
size (spec.Binary op a b) = size a + size b + 3

module _ (names : List Name) (trees : List spec.Formula) where
  -- the text of what is still to be written
  abbrev pub work_text : Task → List ℕ
  work_text (Visit i) = formula_text names (tree_in trees i)
  work_text (Middle op) = binary_text (binary_of op)
  work_text Close = codes ")"

  -- the text of a stack, its last first
  abbrev pub stack_text : List Task → List ℕ
  stack_text [] = []
  stack_text (w ∷ ws) = stack_text ws ++ work_text w

-- how many steps it takes at most
abbrev pub weight : List spec.Formula → Task → ℕ
weight trees (Visit i) = size (tree_in trees i)
weight trees _ = 1

-- the node is one of so many
abbrev pub Points : ℕ → Task → Type 0
Points count (Visit i) = i < count
Points count _ = Unit {0}
