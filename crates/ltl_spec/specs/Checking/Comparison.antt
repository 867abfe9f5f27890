-- What the comparison of two formulas says: whether the one implies the other, and a word where it doesn't.
use Rattle.std.specs.Prelude.{◌⊎◌, Option, Some, None}
use Rattle.ltl_spec.specs.Collections.Sets.{Has}
use Rattle.ltl_spec.specs.Semantics.Word.{Name, Lasso, IsLasso}
use Rattle.ltl_spec.specs.Semantics.Satisfaction.{Satisfies}
use Rattle.ltl_spec.specs.Formulas.Formula.{Reading}
use Rattle.ltl_spec.specs.Words.LassoText.{IsLeast, names_in}

-- each word that satisfies the first formula satisfies the second one
abbrev pub Entails : Reading → Reading → Type 0
Entails R S = (w : Lasso) → IsLasso w → Satisfies R.names w 0 R.formula → Satisfies S.names w 0 S.formula

-- a word in least form that satisfies the first formula and violates the second one, and whose letters hold no other name
pub record IsSeparating (R S : Reading) (w : Lasso) : Type 0 where
  pub lasso : IsLasso w
  pub satisfies : Satisfies R.names w 0 R.formula
  pub violates : ¬ (Satisfies S.names w 0 S.formula)
  pub least : IsLeast w
  pub named : (n : Name) → Has (names_in w) n → Has R.names n ⊎ Has S.names n

-- the first formula implies the second one, or this word shows that it doesn't
abbrev pub IsEntailment : Reading → Reading → Option Lasso → Type 0
IsEntailment R S None = Entails R S
IsEntailment R S (Some w) = IsSeparating R S w

-- a word that satisfies the first formula alone, and one that satisfies the second one alone
pub record Comparison : Type 0 where
  pub first_only : Option Lasso
  pub second_only : Option Lasso

-- there is no word exactly where the formula at hand implies the other one
pub record IsComparison (R S : Reading) (c : Comparison) : Type 0 where
  pub first : IsEntailment R S c.first_only
  pub second : IsEntailment S R c.second_only
