-- The grammar of formulas.
use Rattle.std.specs.Prelude.{◌≡◌, ℕ, suc, Bool, true, false, IsFalse, IsTrue, List, [], ◌∷◌, ◌++◌, filter_map, slice_get, Option, Some, None}
use Rattle.ltl_spec.specs.Collections.Lists.{first_occurrences}
use Rattle.ltl_spec.specs.Semantics.Word.{Name}
use Rattle.ltl_spec.specs.Formulas.Formula.{Formula, Constant, Proposition, Unary, Binary, UnaryOperator, BinaryOperator, And, Or, Implies, Iff, Until, Release, Reading}
use Rattle.ltl_spec.specs.Formulas.Tokens.{Token, ConstantWord, NameWord, UnarySign, BinarySign, Open, Close, same_name, tokens}

-- the rank of an operator; unary operators have rank 0 and bind tightest
abbrev pub rank_of : BinaryOperator → ℕ
rank_of Until = 1
rank_of Release = 1
rank_of And = 2
rank_of Or = 3
rank_of Implies = 4
rank_of Iff = 5

-- whether `a op b op c` is `a op (b op c)`
abbrev pub groups_right : BinaryOperator → Bool
groups_right Implies = true
groups_right _ = false

-- The tokens read as the formula, whose operators outside brackets have at most this rank. A name stands for its place in the list
pub data Parses (names : List Name) : ℕ → List Token → Formula → Type 0 where
  of_constant : (b : Bool) → Parses names 0 (ConstantWord b ∷ []) (Constant b)
  of_name : (n : Name) (p : ℕ) → slice_get names p ≡ Some n → Parses names 0 (NameWord n ∷ []) (Proposition p)
  of_brackets : (ts us : List Token) (F : Formula) → us ≡ Open ∷ ts ++ Close ∷ [] → Parses names 5 ts F → Parses names 0 us F
  of_unary : (op : UnaryOperator) (ts : List Token) (F : Formula) → Parses names 0 ts F → Parses names 0 (UnarySign op ∷ ts) (Unary op F)
  of_tighter : (r : ℕ) (ts : List Token) (F : Formula) → Parses names r ts F → Parses names (suc r) ts F
  of_left : (op : BinaryOperator) (r : ℕ) (xs ys us : List Token) (a b : Formula) → rank_of op ≡ suc r → IsFalse (groups_right op)
      → us ≡ xs ++ BinarySign op ∷ ys → Parses names (suc r) xs a → Parses names r ys b → Parses names (suc r) us (Binary op a b)
  of_right : (op : BinaryOperator) (r : ℕ) (xs ys us : List Token) (a b : Formula) → rank_of op ≡ suc r → IsTrue (groups_right op)
      → us ≡ xs ++ BinarySign op ∷ ys → Parses names r xs a → Parses names (suc r) ys b → Parses names (suc r) us (Binary op a b)

-- the name of a token that is one
abbrev pub name_in : Token → Option Name
name_in (NameWord n) = Some n
name_in _ = None

-- the names in the order in which they first stand
abbrev pub names_of : List Token → List Name
names_of ts = first_occurrences same_name (filter_map name_in ts)

-- the tokens read as the formula with these names
abbrev pub Reads : List Token → Reading → Type 0
Reads ts R = (R.names ≡ names_of ts) × Parses R.names 5 ts R.formula

-- the text reads as the formula
abbrev pub IsTextOf : List ℕ → Reading → Type 0
IsTextOf text R = Reads (tokens text) R

-- the tokens begin the tokens of some formula
abbrev pub IsBeginning : List Token → Type 0
IsBeginning ts = (rest : List Token) × (R : Reading) × Reads (ts ++ rest) R
