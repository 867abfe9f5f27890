-- What a reader expects next: whether an operand is complete, and how many brackets are open.
use Rattle.std.specs.Prelude.{ℕ, suc, List, [], ◌∷◌, zero}
use Rattle.ltl_spec.specs.Formulas.GrammarMachine.{Frame, Bracket, Prefix, Pending, Reader, Wanting, Having}
use Rattle.ltl_spec.specs.Formulas.Tokens.{Token, Unknown}
use Rattle.ltl_spec.specs.Formulas.Fault.{FaultKind, UnexpectedByte, ExpectedOperand, ExpectedOperatorOrEnd, ExpectedCloseOrOperator}

-- an operand comes next, or one is complete; with the number of open brackets
pub data Outline : Type 0 where
  Before : ℕ → Outline
  After : ℕ → Outline

-- how many brackets are open
abbrev pub brackets : List Frame → ℕ
brackets [] = 0
brackets (Bracket ∷ s) = suc (brackets s)
brackets (Prefix op ∷ s) = brackets s
brackets (Pending a op ∷ s) = brackets s

-- a reader's outline
abbrev pub outline : Reader → Outline
outline (Wanting s) = Before (brackets s)
outline (Having F s) = After (brackets s)

-- the kind of a fault by the outline before it
abbrev pub kind_before : Outline → FaultKind
kind_before (Before n) = ExpectedOperand
kind_before (After zero) = ExpectedOperatorOrEnd
kind_before (After (suc n)) = ExpectedCloseOrOperator

-- and by the token at the place
abbrev pub kind_at : Outline → Token → FaultKind
kind_at o Unknown = UnexpectedByte
kind_at o _ = kind_before o
