-- Names of propositions, and lists of names put together.
use Rattle.std.specs.Prelude.{Bool, false, not, ◌&&◌, ◌||◌, List, [], ◌∷◌, ◌++◌, codes, ◌≡◌, true, slice_index_or}
use Rattle.std.specs.List.{list_all, AllByRecursion}
use Rattle.ltl_spec.specs.Collections.Lists.{first_occurrences, with_new}
use Rattle.ltl_spec.specs.Semantics.Word.{Name}
use Rattle.ltl_spec.specs.Formulas.Tokens.{is_lower, is_name_byte, same_name, Token, NameWord}
use Rattle.ltl_spec.specs.Formulas.Formula.{Formula, Constant, Proposition, Unary, Binary, Reading}

abbrev pub is_constant : Name → Bool
is_constant n = same_name n (codes "true") || same_name n (codes "false")

-- whether the bytes are a name that a formula may hold: a lower-case letter, then letters, digits and `_`, and no constant
abbrev pub is_proposition : Name → Bool
is_proposition [] = false
is_proposition (b ∷ bs) = is_lower b && list_all is_name_byte bs && not (is_constant (b ∷ bs))

-- the names of the first list, then those of the second that the first lacks
abbrev pub unified : List Name → List Name → List Name
unified xs ys = first_occurrences same_name (xs ++ ys)

-- a proposition's name: `[a-z][a-z0-9_]*`, and no constant
abbrev pub IsNameWord : Name → Type 0
IsNameWord [] = ⊥
IsNameWord (b ∷ bs) = (is_lower b ≡ true) × AllByRecursion (λ c. is_name_byte c ≡ true) bs × (¬ (b ∷ bs ≡ codes "true")) × (¬ (b ∷ bs ≡ codes "false"))

-- the names after a token
abbrev pub with_name : List Name → Token → List Name
with_name names (NameWord n) = with_new same_name names n
with_name names _ = names

-- the names of the propositions, each as often as it stands
abbrev pub names_in : List Name → Formula → List Name
names_in names (Constant b) = []
names_in names (Proposition p) = slice_index_or names p [] ∷ []
names_in names (Unary op a) = names_in names a
names_in names (Binary op a b) = names_in names a ++ names_in names b

-- The names are proper, and they are those of the formula's propositions in the order in which they first stand
pub record IsNamed (R : Reading) : Type 0 where
  pub words : AllByRecursion IsNameWord R.names
  pub numbered : R.names ≡ first_occurrences same_name (names_in R.names R.formula)
