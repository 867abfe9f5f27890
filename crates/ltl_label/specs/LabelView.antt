-- The state of the label evaluator, and what each token changes of it.
use Rattle.std.specs.Prelude.{◌≡◌, ℕ, Bool, true, false, not, List, [], ◌∷◌, ◌++◌, length, ◌==◌, Option, Some, None}
use Rattle.std.specs.Bool.{beq}
use Rattle.ltl_spec.specs.Transitions.Cubes.{Cube}
use Rattle.ltl_label.specs.CubesView.{both_cubes, constant_cubes, literal_cubes}

pub record PartView : Type 0 where
  pub positive : Bool
  pub negated : Bool
  pub sum : Option (Option (List Cube))
  pub product : Option (Option (List Cube))

-- the innermost part, and those around it, the innermost of them last
pub record LabelView : Type 0 where
  pub inner : PartView
  pub around : List PartView

abbrev pub new_part : Bool → PartView
new_part positive = record { positive = positive; negated = false; sum = None; product = None }

abbrev pub new_label : LabelView
new_label = record { inner = new_part true; around = [] }

abbrev pub sign_of : PartView → Bool
sign_of p = not (beq p.positive p.negated)

abbrev pub negate : PartView → PartView
negate p = record p { negated = not p.negated }

-- what stands before it, joined to an operand
abbrev pub beside : Bool → Option (Option (List Cube)) → Option (List Cube) → Option (List Cube)
beside meet (Some before) cubes = both_cubes meet before cubes
beside meet None cubes = cubes

abbrev pub add : PartView → Option (List Cube) → PartView
add p cubes = record p { negated = false; product = Some (beside p.positive p.product cubes) }

abbrev pub product_of : Bool → Option (Option (List Cube)) → Option (List Cube)
product_of positive (Some cubes) = cubes
product_of positive None = constant_cubes positive

abbrev pub whole : PartView → Option (List Cube)
whole p = beside (not p.positive) p.sum (product_of p.positive p.product)

-- without the cubes, which were taken out
abbrev pub spent_part : PartView → PartView
spent_part p = record { positive = p.positive; negated = p.negated; sum = None; product = None }

abbrev pub alternative : PartView → PartView
alternative p = record { positive = p.positive; negated = false; sum = Some (whole p); product = None }

abbrev pub negate_inner : LabelView → LabelView
negate_inner x = record x { inner = negate x.inner }

abbrev pub open_bracket : LabelView → LabelView
open_bracket x = record { inner = new_part (sign_of x.inner); around = x.around ++ x.inner ∷ [] }

abbrev pub take_cubes : LabelView → Option (List Cube) → LabelView
take_cubes x cubes = record x { inner = add x.inner cubes }

abbrev pub take_constant : LabelView → Bool → LabelView
take_constant x value = take_cubes x (constant_cubes (beq value (sign_of x.inner)))

abbrev pub take_proposition : LabelView → ℕ → LabelView
take_proposition x n = take_cubes x (literal_cubes n (sign_of x.inner))

abbrev pub take_alternative : LabelView → LabelView
take_alternative x = record x { inner = alternative x.inner }

abbrev pub is_closed : LabelView → Bool
is_closed x = length x.around == 0

abbrev pub spent : LabelView → LabelView
spent x = record x { inner = spent_part x.inner }

-- a closing bracket: there was none to close, or the innermost part is an operand of the one around it
abbrev pub Closes : LabelView → Bool → LabelView → Type 0
Closes x false y = x.around ≡ []
Closes x true y = (p : PartView) × (x.around ≡ y.around ++ p ∷ []) × (y.inner ≡ add p (whole x.inner))
