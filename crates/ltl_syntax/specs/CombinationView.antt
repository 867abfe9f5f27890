-- Formulas made of two formulas: their reading, and what they hold on.
use Rattle.std.specs.Prelude.{◌↔◌, ℕ, ◌+◌, ◌-◌, List, [], ◌∷◌, ◌++◌, length, map, slice_index_or}
use Rattle.ltl_spec.specs.Collections.Lists.{place_of}
use Rattle.ltl_spec.specs.Semantics.Word.{Name, Lasso}
use Rattle.ltl_spec.specs.Semantics.Satisfaction.{Satisfies}
use Rattle.ltl_spec.specs.Formulas.Formula as spec
use Rattle.ltl_spec.specs.Formulas.Tokens.{same_name}
use Rattle.ltl_spec.specs.Formulas.Names.{unified}
use Rattle.ltl_syntax.specs.FormulaView.{FormulaView}
use Rattle.ltl_syntax.specs.declared.operators.BinaryOperator.{BinaryOperator}
use Rattle.ltl_syntax.specs.declared.operators.Node.{Node}
use Rattle.ltl_syntax.specs.declared.operators.Node.TheVariants.{Constant, Proposition, Unary, Binary}

-- the formula holds on the word, from its beginning
abbrev pub HoldsOn : Lasso → spec.Reading → Type 0
HoldsOn w R = Satisfies R.names w 0 R.formula

-- T holds on exactly the words on which R implies S
abbrev pub IsImplication : spec.Reading → spec.Reading → spec.Reading → Type 0
IsImplication R S T = (w : Lasso) → HoldsOn w T ↔ (HoldsOn w R → HoldsOn w S)

-- T holds on exactly the words on which both hold or neither does
abbrev pub IsEquivalence : spec.Reading → spec.Reading → spec.Reading → Type 0
IsEquivalence R S T = (w : Lasso) → HoldsOn w T ↔ (HoldsOn w R ↔ HoldsOn w S)

-- the formula with other numbers for its propositions
abbrev pub renumbered : (ℕ → ℕ) → spec.Formula → spec.Formula
renumbered number (spec.Constant b) = spec.Constant b
renumbered number (spec.Proposition p) = spec.Proposition (number p)
renumbered number (spec.Unary op a) = spec.Unary op (renumbered number a)
renumbered number (spec.Binary op a b) = spec.Binary op (renumbered number a) (renumbered number b)

-- the number that a proposition's name has among all names
abbrev pub number_among : List Name → List Name → ℕ → ℕ
number_among all names p = place_of same_name (slice_index_or names p []) all

-- the formula of an operator and two operands, over the names of both
abbrev pub combination : spec.BinaryOperator → spec.Reading → spec.Reading → spec.Reading
combination op R S =
    let all = unified R.names S.names in
    record { formula = spec.Binary op (renumbered (number_among all R.names) R.formula) (renumbered (number_among all S.names) S.formula); names = all }

-- a node behind so many other nodes, with other numbers for its propositions
abbrev pub moved : ℕ → (ℕ → ℕ) → Node → Node
moved base number (Constant b) = Constant b
moved base number (Proposition p) = Proposition (number p)
moved base number (Unary op i) = Unary op (base + i)
moved base number (Binary op i j) = Binary op (base + i) (base + j)

-- the nodes of a formula behind so many other nodes, with their numbers among all names
abbrev pub moved_nodes : ℕ → List Name → FormulaView → List Node
moved_nodes base all f = map (moved base (number_among all f.names)) f.nodes

-- the nodes of both formulas, and a node on top whose operands are the last nodes of both
abbrev pub joint_nodes : BinaryOperator → List Name → FormulaView → FormulaView → List Node
joint_nodes op all f g =
    let firsts = moved_nodes 0 all f in
    let both = firsts ++ moved_nodes (length firsts) all g in
    both ++ Binary op (length firsts - 1) (length both - 1) ∷ []
