-- Formulas as trees. A proposition is a number, which stands for the name at that place of a list.
use Rattle.std.specs.Prelude.{ℕ, Bool, List}
use Rattle.ltl_spec.specs.Semantics.Word.{Name}

pub data UnaryOperator : Type 0 where
  Not Next Always Eventually : UnaryOperator

pub data BinaryOperator : Type 0 where
  And Or Implies Iff Until Release : BinaryOperator

pub data Formula : Type 0 where
  Constant : Bool → Formula
  Proposition : ℕ → Formula
  Unary : UnaryOperator → Formula → Formula
  Binary : BinaryOperator → Formula → Formula → Formula

-- a formula as it was read, with the names in the order in which they first stand in the text
pub record Reading : Type 0 where
  pub formula : Formula
  pub names : List Name
