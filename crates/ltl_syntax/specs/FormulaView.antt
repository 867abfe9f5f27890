-- A formula as the list of its nodes, and the syntax tree that they stand for.
use Rattle.std.specs.Prelude.{◌≡◌, ℕ, suc, ◌+◌, ◌-◌, ◌<◌, ◌≤◌, ◌==◌, ◌∷◌, ◌++◌, [], List, fold, length, if◌then◌else◌, slice_index_or, false, IsTrue}
use Rattle.std.specs.List.{flat_map, list_all}
use Rattle.ltl_spec.specs.Semantics.Word.{Name}
use Rattle.ltl_spec.specs.Collections.Lists.{HasNoRepeats}
use Rattle.ltl_spec.specs.Formulas.Formula as spec
use Rattle.ltl_spec.specs.Formulas.Names.{IsNamed, is_proposition}
use Rattle.ltl_spec.specs.Tools.Limits.{stated_limits}
use Rattle.ltl_syntax.specs.declared.operators.Node.{Node}
use Rattle.ltl_syntax.specs.declared.operators.Node.TheVariants.{Constant, Proposition, Unary, Binary}
use Rattle.ltl_syntax.specs.declared.operators.UnaryOperator as unary
use Rattle.ltl_syntax.specs.declared.operators.BinaryOperator as binary

-- the operators of the code as those of the definitions
abbrev pub unary_of : unary.UnaryOperator → spec.UnaryOperator
unary_of unary.TheVariants.Not = spec.Not
unary_of unary.TheVariants.Next = spec.Next
unary_of unary.TheVariants.Always = spec.Always
unary_of unary.TheVariants.Eventually = spec.Eventually

abbrev pub binary_of : binary.BinaryOperator → spec.BinaryOperator
binary_of binary.TheVariants.And = spec.And
binary_of binary.TheVariants.Or = spec.Or
binary_of binary.TheVariants.Implies = spec.Implies
binary_of binary.TheVariants.Iff = spec.Iff
binary_of binary.TheVariants.Until = spec.Until
binary_of binary.TheVariants.Release = spec.Release

-- the nodes and the names of a formula
pub record FormulaView : Type 0 where
  pub nodes : List Node
  pub names : List Name

-- the tree of that number among the trees
abbrev pub tree_in : List spec.Formula → ℕ → spec.Formula
tree_in ts k = slice_index_or ts k (spec.Constant false)

-- the tree of a node, given those of the nodes before it
abbrev pub tree_of : List spec.Formula → Node → spec.Formula
tree_of ts (Constant b) = spec.Constant b
tree_of ts (Proposition p) = spec.Proposition p
tree_of ts (Unary op i) = spec.Unary (unary_of op) (tree_in ts i)
tree_of ts (Binary op i j) = spec.Binary (binary_of op) (tree_in ts i) (tree_in ts j)

abbrev pub with_tree : List spec.Formula → Node → List spec.Formula
with_tree ts v = ts ++ tree_of ts v ∷ []

-- the trees of the nodes, in their order
abbrev pub trees : List Node → List spec.Formula
trees nodes = fold with_tree [] nodes

-- the tree of the last node
abbrev pub whole_tree : List Node → spec.Formula
whole_tree nodes = tree_in (trees nodes) (length nodes - 1)

-- the formula as it was read
abbrev pub reading_of : FormulaView → spec.Reading
reading_of f = record { formula = whole_tree f.nodes; names = f.names }

-- a node at place i stands behind its operands, and its proposition is one of so many
abbrev pub StandsAt : ℕ → ℕ → Node → Type 0
StandsAt count i (Constant b) = Unit {0}
StandsAt count i (Proposition p) = p < count
StandsAt count i (Unary op a) = a < i
StandsAt count i (Binary op a b) = (a < i) × (b < i)

-- the numbers of a node's operands
abbrev pub operands_of : Node → List ℕ
operands_of (Constant b) = []
operands_of (Proposition p) = []
operands_of (Unary op a) = a ∷ []
operands_of (Binary op a b) = a ∷ b ∷ []

-- how often the number stands in the list
abbrev pub times : ℕ → List ℕ → ℕ
times k [] = 0
times k (j ∷ js) = (if j == k then 1 else 0) + times k js

-- There is a node, operands stand before their node, and each node but the last is an operand once: no node stands beside the tree of the
-- last one. The names are within their limit, distinct propositions, and in the order in which they first stand in that tree
pub record IsFormula (nodes : List Node) (names : List Name) : Type 0 where
  pub some : 0 < length nodes
  pub operands : (i : ℕ) → i < length nodes → StandsAt (length names) i (slice_index_or nodes i (Constant false))
  pub once : (k : ℕ) → suc k < length nodes → times k (flat_map operands_of nodes) ≡ 1
  pub named : IsNamed (record { formula = whole_tree nodes; names = names })
  pub propositions : IsTrue (list_all is_proposition names)
  pub distinct : HasNoRepeats names
  pub few : length names ≤ stated_limits.propositions
