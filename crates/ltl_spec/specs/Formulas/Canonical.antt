-- The canonical text of a formula: brackets around each binary operator.
use Rattle.std.specs.Prelude.{ℕ, Bool, true, false, List, [], ◌++◌, slice_index_or, codes}
use Rattle.ltl_spec.specs.Semantics.Word.{Name}
use Rattle.ltl_spec.specs.Formulas.Formula.{Formula, Constant, Proposition, Unary, Binary, UnaryOperator, Not, Next, Always, Eventually, BinaryOperator, And, Or, Implies, Iff, Until, Release, Reading}

abbrev pub constant_text : Bool → List ℕ
constant_text true = codes "true"
constant_text false = codes "false"

-- a unary operator stands before its operand, `X` with a blank
abbrev pub unary_text : UnaryOperator → List ℕ
unary_text Not = codes "!"
unary_text Next = codes "X "
unary_text Always = codes "[]"
unary_text Eventually = codes "<>"

-- a binary operator stands between its operands with a blank on each side
abbrev pub binary_text : BinaryOperator → List ℕ
binary_text And = codes " && "
binary_text Or = codes " || "
binary_text Implies = codes " -> "
binary_text Iff = codes " <-> "
binary_text Until = codes " U "
binary_text Release = codes " V "

-- a formula by the names of its propositions
abbrev pub formula_text : List Name → Formula → List ℕ
formula_text names (Constant b) = constant_text b
formula_text names (Proposition p) = slice_index_or names p []
formula_text names (Unary op a) = unary_text op ++ formula_text names a
formula_text names (Binary op a b) = codes "(" ++ formula_text names a ++ binary_text op ++ formula_text names b ++ codes ")"

-- the text that stands for a formula as it was read
abbrev pub canonical_text : Reading → List ℕ
canonical_text R = formula_text R.names R.formula
