-- A reader with one explicit stack: it goes over the tokens once, from the left, and answers the formula.
-- The stack's top is the head of its list.
use Rattle.std.specs.Prelude.{ℕ, ◌-◌, if◌then◌else◌, nat_le, List, [], ◌∷◌, Option, Some, None}
use Rattle.ltl_spec.specs.Collections.Lists.{place_of}
use Rattle.ltl_spec.specs.Semantics.Word.{Name}
use Rattle.ltl_spec.specs.Formulas.Formula.{Formula, Constant, Proposition, Unary, Binary, UnaryOperator, BinaryOperator}
use Rattle.ltl_spec.specs.Formulas.Tokens.{Token, ConstantWord, NameWord, UnarySign, BinarySign, Open, Close, same_name}
use Rattle.ltl_spec.specs.Formulas.Grammar.{rank_of, groups_right}

-- what is open: a bracket, a unary operator that waits for its operand, or a left operand with its binary operator
pub data Frame : Type 0 where
  Bracket : Frame
  Prefix : UnaryOperator → Frame
  Pending : Formula → BinaryOperator → Frame

-- an operand comes next, or one is complete
pub data Reader : Type 0 where
  Wanting : List Frame → Reader
  Having : Formula → List Frame → Reader

-- the highest rank of a left operand
abbrev pub left_rank : BinaryOperator → ℕ
left_rank op = if groups_right op then rank_of op - 1 else rank_of op

-- what waits on top closes over the operand: unary operators, and binary ones of at most this rank
abbrev pub close : ℕ → Formula → List Frame → Formula × List Frame
close n F [] = (F, [])
close n F (Bracket ∷ s) = (F, Bracket ∷ s)
close n F (Prefix op ∷ s) = close n (Unary op F) s
close n F (Pending a op ∷ s) = let rest = close n (Binary op a F) s in if nat_le (rank_of op) n then rest else (F, Pending a op ∷ s)

-- a bracket on top goes away
abbrev pub unbracketed : Formula → List Frame → Option Reader
unbracketed F (Bracket ∷ s) = Some (Having F s)
unbracketed F _ = None

-- nothing is open
abbrev pub unopened : Formula → List Frame → Option Formula
unopened F [] = Some F
unopened F _ = None

-- one token more, `None` where it fits nowhere
abbrev pub read_step : List Name → Reader → Token → Option Reader
read_step names (Wanting s) (ConstantWord b) = Some (Having (Constant b) s)
read_step names (Wanting s) (NameWord n) = Some (Having (Proposition (place_of same_name n names)) s)
read_step names (Wanting s) (UnarySign op) = Some (Wanting (Prefix op ∷ s))
read_step names (Wanting s) Open = Some (Wanting (Bracket ∷ s))
read_step names (Wanting s) _ = None
read_step names (Having F s) (BinarySign op) = let c = close (left_rank op) F s in Some (Wanting (Pending c.0 op ∷ c.1))
read_step names (Having F s) Close = let c = close 5 F s in unbracketed c.0 c.1
read_step names (Having F s) _ = None

-- the formula, if all is closed with it
abbrev pub finished : Reader → Option Formula
finished (Wanting s) = None
finished (Having F s) = let c = close 5 F s in unopened c.0 c.1
