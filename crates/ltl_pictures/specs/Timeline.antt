-- The timeline of a word: a table of characters, with a line for each proposition and for each subformula.
use Rattle.std.specs.Prelude.{ℕ, zero, suc, ◌+◌, ◌-◌, ◌<◌, max, Bool, true, false, ◌==◌, ◌||◌, if◌then◌else◌, List, [], ◌∷◌, ◌++◌, codes, decimal, fold, length, replicate, reverse, slice_index_or}
use Rattle.std.specs.Bool.{Decides}
use Rattle.std.specs.List.{list_any, range_with_len}
use Rattle.ltl_spec.specs.Collections.Lists.{with_new}
use Rattle.ltl_spec.specs.Collections.Sets.{has}
use Rattle.ltl_spec.specs.Formulas.Canonical.{formula_text}
use Rattle.ltl_spec.specs.Formulas.Tokens.{same_name}
use Rattle.ltl_spec.specs.Semantics.Satisfaction.{Satisfies}
use Rattle.ltl_spec.specs.Semantics.Word.{Name, Lasso, letter_at, name_cmp}
use Rattle.ltl_spec.specs.Words.LassoText.{names_in}
use Rattle.ltl_syntax.specs.FormulaView.{FormulaView, tree_in, trees}
use Rattle.ltl_syntax.specs.declared.operators.Node.{Node}
use Rattle.ltl_syntax.specs.declared.operators.Node.TheVariants.{Constant, Proposition, Unary, Binary}
use Rattle.ltl_word.specs.LassoView.{size}

-- ---- characters

-- `*` where something is true, and `.` where it isn't
abbrev pub mark : Bool → ℕ
mark true = 42
mark false = 46

-- the digit of a position's number before k others, or a blank if it has no more than k
abbrev pub digit : ℕ → ℕ → ℕ
digit k i = slice_index_or (reverse (decimal i)) k 32

-- a blank and the character of position i, behind a bar where the cycle begins
abbrev pub column : ℕ → ℕ → ℕ → List ℕ
column stem i c = (if i == stem then codes " |" else []) ++ 32 ∷ c ∷ []

-- ---- lines

-- the texts of n numbers from i on
abbrev pub texts_from : (ℕ → List ℕ) → ℕ → ℕ → List ℕ
texts_from text i zero = []
texts_from text i (suc n) = text i ++ texts_from text (i + 1) n

-- the greatest of the first n values
abbrev pub greatest : (ℕ → ℕ) → ℕ → ℕ
greatest value zero = 0
greatest value (suc n) = max (greatest value n) (value n)

-- the label, behind it blanks up to the width
abbrev pub padded : ℕ → List ℕ → List ℕ
padded width label = label ++ replicate (width - length label) 32

-- a label and a column for each position of the word
abbrev pub line : ℕ → Lasso → List ℕ → (ℕ → ℕ) → List ℕ
line width w label character = padded width label ++ texts_from (λ i. column (length w.stem) i (character i)) 0 (size w) ++ codes "\n"

-- the numbers of the positions from top to bottom, in so many lines of digits
abbrev pub number_lines : ℕ → Lasso → ℕ → List ℕ
number_lines width w zero = []
number_lines width w (suc k) = line width w [] (digit k) ++ number_lines width w k

-- the digits of the greatest number
abbrev pub digit_count : Lasso → ℕ
digit_count w = length (decimal (size w - 1))

-- ---- propositions

-- the names, and then those of the word that they lack, each where it first stands
abbrev pub with_names_of : Lasso → List Name → List Name
with_names_of w names = fold (with_new same_name) names (names_in w)

abbrev pub name_at : List Name → ℕ → Name
name_at names p = slice_index_or names p []

abbrev pub name_width : List Name → ℕ
name_width names = greatest (λ p. length (name_at names p)) (length names)

-- where the proposition is true
abbrev pub proposition_line : ℕ → Lasso → Name → List ℕ
proposition_line width w name = line width w name (λ i. mark (has name_cmp name (letter_at w i)))

-- the numbers of the positions, and a line for each proposition
abbrev pub proposition_lines : ℕ → Lasso → List Name → List ℕ
proposition_lines width w names = number_lines width w (digit_count w) ++ texts_from (λ p. proposition_line width w (name_at names p)) 0 (length names)

-- the word alone
abbrev pub word_timeline : Lasso → List ℕ
word_timeline w = proposition_lines (name_width (with_names_of w [])) w (with_names_of w [])

-- ---- subformulas

-- the subformula of node k
abbrev pub subformula_text : FormulaView → ℕ → List ℕ
subformula_text f k = formula_text f.names (tree_in (trees f.nodes) k)

abbrev pub subformula_width : FormulaView → ℕ
subformula_width f = greatest (λ k. length (subformula_text f k)) (length f.nodes)

abbrev pub is_proposition : Node → Bool
is_proposition (Constant b) = false
is_proposition (Proposition p) = true
is_proposition (Unary op a) = false
is_proposition (Binary op a b) = false

-- the subformula of node k is that of an earlier node, too
abbrev pub stands_before : FormulaView → ℕ → Bool
stands_before f k = list_any (λ j. same_name (subformula_text f k) (subformula_text f j)) (range_with_len 0 k)

-- a proposition has its line above, and a subformula has one line where it first stands
abbrev pub is_left_out : FormulaView → ℕ → Bool
is_left_out f k = is_proposition (slice_index_or f.nodes k (Constant false)) || stands_before f k

module _ (f : FormulaView) (w : Lasso) (truth : ℕ → ℕ → Bool) where
  -- `truth k i` says whether the subformula of node k holds at position i
  abbrev pub IsTruth : Type 0
  IsTruth = (k i : ℕ) → k < length f.nodes → i < size w → Decides (truth k i) (Satisfies f.names w i (tree_in (trees f.nodes) k))

  abbrev pub subformula_line : ℕ → ℕ → List ℕ
  subformula_line width k = if is_left_out f k then [] else (line width w (subformula_text f k) (λ i. mark (truth k i)))

  -- the lines of the propositions, and of the subformulas, operands before what is made of them
  abbrev pub lines : ℕ → List ℕ
  lines width = proposition_lines width w (with_names_of w f.names) ++ texts_from (subformula_line width) 0 (length f.nodes)

  -- the word and the formula
  abbrev pub timeline : List ℕ
  timeline = lines (max (name_width (with_names_of w f.names)) (subformula_width f))
