-- The normal forms of a formula and of its negation at each node of a flat formula, by those of its operands.
use Rattle.std.specs.Prelude.{ℕ, Bool, true, false, not, if◌then◌else◌}
use Rattle.ltl_spec.specs.Formulas.Formula.{UnaryOperator, BinaryOperator, Not, Next, Always, Eventually, And, Or, Implies, Iff, Until, Release}
use Rattle.ltl_spec.specs.NormalForms.Normal.{Normal, Top, Bottom, Leaf, Next, And, Or, Until, Release}
use Rattle.ltl_spec.specs.NormalForms.NormalForm.{constant, simple_and, simple_or, simple_next, simple_until, simple_release}

-- the node, or what rewriting makes of it
abbrev pub made_next : Bool → Normal → Normal
made_next rewrite a = if rewrite then simple_next a else Next a

abbrev pub made_and : Bool → Normal → Normal → Normal
made_and rewrite a b = if rewrite then simple_and a b else And a b

abbrev pub made_or : Bool → Normal → Normal → Normal
made_or rewrite a b = if rewrite then simple_or a b else Or a b

abbrev pub made_until : Bool → Normal → Normal → Normal
made_until rewrite a b = if rewrite then simple_until a b else Until a b

abbrev pub made_release : Bool → Normal → Normal → Normal
made_release rewrite a b = if rewrite then simple_release a b else Release a b

-- the two normal forms of a formula
pub record Both : Type 0 where
  pub yes : Normal
  pub no : Normal

-- a node of a formula with the numbers of its operands, which stand before it
pub data FlatNode : Type 0 where
  FlatConstant : Bool → FlatNode
  FlatProposition : ℕ → FlatNode
  FlatUnary : UnaryOperator → ℕ → FlatNode
  FlatBinary : BinaryOperator → ℕ → ℕ → FlatNode

-- both forms at an operator with one operand
abbrev pub both_unary : Bool → UnaryOperator → Both → Both
both_unary r Not x = record { yes = x.no; no = x.yes }
both_unary r Next x = record { yes = made_next r x.yes; no = made_next r x.no }
both_unary r Always x = record { yes = made_release r Bottom x.yes; no = made_until r Top x.no }
both_unary r Eventually x = record { yes = made_until r Top x.yes; no = made_release r Bottom x.no }

-- and at one with two
abbrev pub both_binary : Bool → BinaryOperator → Both → Both → Both
both_binary r And x y = record { yes = made_and r x.yes y.yes; no = made_or r x.no y.no }
both_binary r Or x y = record { yes = made_or r x.yes y.yes; no = made_and r x.no y.no }
both_binary r Implies x y = record { yes = made_or r x.no y.yes; no = made_and r x.yes y.no }
both_binary r Iff x y = record { yes = made_or r (made_and r x.yes y.yes) (made_and r x.no y.no); no = made_and r (made_or r x.no y.no) (made_or r x.yes y.yes) }
both_binary r Until x y = record { yes = made_until r x.yes y.yes; no = made_release r x.no y.no }
both_binary r Release x y = record { yes = made_release r x.yes y.yes; no = made_until r x.no y.no }

-- both forms of a node, given those of the numbers
abbrev pub both_of : Bool → (ℕ → Both) → FlatNode → Both
both_of r f (FlatConstant b) = record { yes = constant b; no = constant (not b) }
both_of r f (FlatProposition p) = record { yes = Leaf (record { proposition = p; positive = true }); no = Leaf (record { proposition = p; positive = false }) }
both_of r f (FlatUnary op i) = both_unary r op (f i)
both_of r f (FlatBinary op i j) = both_binary r op (f i) (f j)
