-- Labels of edges: how they are written, and their cubes.
use Rattle.std.specs.Prelude.{ℕ, Bool, true, ◌&&◌, nat_lt, nat_le, if◌then◌else◌, List, [], ◌∷◌, ◌++◌, length, flat_map, filter_map, codes}
use Rattle.std.specs.List.{list_any}
use Rattle.ltl_spec.specs.Collections.Sets.{set_of, union}
use Rattle.ltl_spec.specs.Formulas.Formula.{Formula, Constant, Proposition, Unary, Binary, Not, And, Or}
use Rattle.ltl_spec.specs.Transitions.Cubes.{Cube, cube_cmp, join_cubes}
use Rattle.ltl_spec.specs.NormalForms.Normal.{Normal, Top, Leaf, And, Or}
use Rattle.ltl_spec.specs.NormalForms.NormalForm.{normal_form, postorder}
use Rattle.ltl_spec.specs.Hoa.HoaToken.{HoaToken, Identifier, Int, OpenBracket, CloseBracket, NotSign, AndSign, OrSign}

-- a label as it is written, with its brackets. A proposition is its place in the list of names
pub data Label : Type 0 where
  ConstantLabel : Bool → Label
  NumberLabel : ℕ → Label
  NotLabel BracketLabel : Label → Label
  AndLabel OrLabel : Label → Label → Label

-- a label by its tokens
abbrev pub label_tokens : Label → List HoaToken
label_tokens (ConstantLabel b) = Identifier (if b then codes "t" else codes "f") ∷ []
label_tokens (NumberLabel i) = Int i ∷ []
label_tokens (NotLabel a) = NotSign ∷ label_tokens a
label_tokens (BracketLabel a) = OpenBracket ∷ label_tokens a ++ CloseBracket ∷ []
label_tokens (AndLabel a b) = label_tokens a ++ AndSign ∷ label_tokens b
label_tokens (OrLabel a b) = label_tokens a ++ OrSign ∷ label_tokens b

-- `!` binds before `&`, and `&` before `|`
abbrev pub label_rank : Label → ℕ
label_rank (AndLabel a b) = 1
label_rank (OrLabel a b) = 2
label_rank _ = 0

-- whether an operand that binds less tightly than its operator, or an equal one on the right, stands in brackets
abbrev pub is_grouped : Label → Bool
is_grouped (ConstantLabel b) = true
is_grouped (NumberLabel i) = true
is_grouped (NotLabel a) = nat_le (label_rank a) 0 && is_grouped a
is_grouped (BracketLabel a) = is_grouped a
is_grouped (AndLabel a b) = nat_le (label_rank a) 1 && nat_le (label_rank b) 0 && is_grouped a && is_grouped b
is_grouped (OrLabel a b) = nat_le (label_rank b) 1 && is_grouped a && is_grouped b

-- whether each proposition is one of so many names
abbrev pub has_names_below : ℕ → Label → Bool
has_names_below n (ConstantLabel b) = true
has_names_below n (NumberLabel i) = nat_lt i n
has_names_below n (NotLabel a) = has_names_below n a
has_names_below n (BracketLabel a) = has_names_below n a
has_names_below n (AndLabel a b) = has_names_below n a && has_names_below n b
has_names_below n (OrLabel a b) = has_names_below n a && has_names_below n b

-- the label as a formula, its brackets left out
abbrev pub label_formula : Label → Formula
label_formula (ConstantLabel b) = Constant b
label_formula (NumberLabel i) = Proposition i
label_formula (NotLabel a) = Unary Not (label_formula a)
label_formula (BracketLabel a) = label_formula a
label_formula (AndLabel a b) = Binary And (label_formula a) (label_formula b)
label_formula (OrLabel a b) = Binary Or (label_formula a) (label_formula b)

-- negation stands at the propositions alone
abbrev pub label_normal : Label → Normal
label_normal a = normal_form true (label_formula a)

-- The cubes of a normal form without `X`, `U` and `V`, as a set: of `|` those of both sides, of `&` one of each side joined in every way
-- without contradiction
abbrev pub cubes : Normal → List Cube
cubes Top = [] ∷ []
cubes (Leaf l) = (l ∷ []) ∷ []
cubes (And a b) = let right = cubes b in set_of cube_cmp (flat_map (λ c. filter_map (join_cubes c) right) (cubes a))
cubes (Or a b) = union cube_cmp (cubes a) (cubes b)
cubes _ = []

-- the cubes of a label
abbrev pub label_cubes : Label → List Cube
label_cubes a = cubes (label_normal a)

-- whether a part of the normal form has more cubes than that
abbrev pub is_wide : ℕ → Label → Bool
is_wide most a = list_any (λ part. nat_lt most (length (cubes part))) (postorder (label_normal a))
