-- Where and why a text is no formula.
use Rattle.std.specs.Prelude.{◌≡◌, ℕ, suc, List, [], ◌∷◌, ◌++◌, length, take, slice_get, Option, Some, None, codes}
use Rattle.ltl_spec.specs.Formulas.Formula.{Reading}
use Rattle.ltl_spec.specs.Formulas.Tokens.{Token, NameWord, Close, Unknown, Item, items, tokens}
use Rattle.ltl_spec.specs.Formulas.Grammar.{Reads, IsBeginning}

-- what is wrong: a byte that begins no token; an operand has to begin; an operand is complete, with no bracket open, or with one
pub data FaultKind : Type 0 where
  UnexpectedByte ExpectedOperand ExpectedOperatorOrEnd ExpectedCloseOrOperator : FaultKind

-- the tokens may go on with an operand
abbrev pub WantsOperand : List Token → Type 0
WantsOperand ts = IsBeginning (ts ++ NameWord (codes "a") ∷ [])

-- a bracket is open, and an operand is complete
abbrev pub WantsClose : List Token → Type 0
WantsClose ts = IsBeginning (ts ++ Close ∷ [])

-- the kind by the tokens before the place, where no byte is at fault
abbrev pub HasKind : List Token → FaultKind → Type 0
HasKind ts UnexpectedByte = ⊥
HasKind ts ExpectedOperand = WantsOperand ts
HasKind ts ExpectedCloseOrOperator = ¬ (WantsOperand ts) × WantsClose ts
HasKind ts ExpectedOperatorOrEnd = ¬ (WantsOperand ts) × ¬ (WantsClose ts)

-- the kind by the token at the place too
abbrev pub HasKindAt : List Token → Token → FaultKind → Type 0
HasKindAt ts Unknown kind = kind ≡ UnexpectedByte
HasKindAt ts _ kind = HasKind ts kind

-- The first `count` tokens begin a formula's tokens. With the token at the place they don't, or they are all and are no formula
abbrev pub IsFaultAt : List ℕ → ℕ → Option Item → ℕ → FaultKind → Type 0
IsFaultAt text count (Some item) place kind =
    (place ≡ item.start) × ¬ (IsBeginning (take (suc count) (tokens text))) × HasKindAt (take count (tokens text)) item.token kind
IsFaultAt text count None place kind =
    (place ≡ length text) × ((R : Reading) → ¬ (Reads (tokens text) R)) × HasKind (tokens text) kind

-- the text is no formula, for a fault of this kind at this place
pub record IsFault (text : List ℕ) (place : ℕ) (kind : FaultKind) : Type 0 where
  pub count : ℕ
  pub begins : IsBeginning (take count (tokens text))
  pub stops : IsFaultAt text count (slice_get (items text) count) place kind
