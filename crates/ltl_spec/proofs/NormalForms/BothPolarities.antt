-- The normal forms of a formula and of its negation, built together from those of its operands, rewritten at each node or not.
use Rattle.std.proofs.Common.{◌≡◌, ℕ, Bool, true, false, List, [], ◌∷◌, refl, ◌∙◌, ap, inl, inr}
use Rattle.std.specs.Prelude.{not, if◌then◌else◌}
use Rattle.ltl_spec.specs.Collections.Sets.{Has}
use Rattle.ltl_spec.specs.Formulas.Formula.{Formula, UnaryOperator, BinaryOperator, Constant, Proposition, Unary, Binary, Not, And}
use Rattle.ltl_spec.specs.NormalForms.Normal.{Normal, Top, Bottom, And}
use Rattle.ltl_spec.specs.NormalForms.NormalForm.{constant, normal_form, simple_form, core}
pub use Rattle.ltl_spec.specs.NormalForms.BothPolarities.{made_next, made_and, made_or, made_until, made_release, Both, FlatNode, FlatConstant, FlatProposition, FlatUnary, FlatBinary, both_unary, both_binary, both_of}

-- one operator above operands that are made

-- the normal form of the formula, or at `false` of its negation, rewritten or not
abbrev pub made_form : Bool → Bool → Formula → Normal
made_form rewrite sign F = if rewrite then simple_form (normal_form sign F) else normal_form sign F

-- what is translated is one of the two
pub core_is : (F : Formula) (negate rewrite : Bool) → core F negate rewrite ≡ made_form rewrite (not negate) F
core_is F true true = refl
core_is F true false = refl
core_is F false true = refl
core_is F false false = refl

-- flat formulas

-- the numbers of its operands
abbrev pub flat_parts : FlatNode → List ℕ
flat_parts (FlatConstant b) = []
flat_parts (FlatProposition p) = []
flat_parts (FlatUnary op i) = i ∷ []
flat_parts (FlatBinary op i j) = i ∷ j ∷ []

-- the formula that a node stands for, given those of the numbers
abbrev pub formula_of : (ℕ → Formula) → FlatNode → Formula
formula_of f (FlatConstant b) = Constant b
formula_of f (FlatProposition p) = Proposition p
formula_of f (FlatUnary op i) = Unary op (f i)
formula_of f (FlatBinary op i j) = Binary op (f i) (f j)

-- both forms of a formula
abbrev pub both_forms : Bool → Formula → Both
both_forms rewrite F = record { yes = made_form rewrite true F; no = made_form rewrite false F }

-- the forms at an operator are those of the formula with that operator
pub unary_forms : (r : Bool) (op : UnaryOperator) (a : Formula) → both_unary r op (both_forms r a) ≡ both_forms r (Unary op a)
unary_forms true Not a = refl
unary_forms true _ a = refl
unary_forms false Not a = refl
unary_forms false _ a = refl

-- and so with two operands
pub binary_forms : (r : Bool) (op : BinaryOperator) (a b : Formula) → both_binary r op (both_forms r a) (both_forms r b) ≡ both_forms r (Binary op a b)
binary_forms true And a b = refl
binary_forms true _ a b = refl
binary_forms false And a b = refl
binary_forms false _ a b = refl

-- those of a constant and of a proposition
constant_forms : (r b : Bool) → ◌≡◌ {A = Both} (record { yes = constant b; no = constant (not b) }) (both_forms r (Constant b))
constant_forms true true = refl
constant_forms true false = refl
constant_forms false true = refl
constant_forms false false = refl

proposition_forms : (r : Bool) (p : ℕ) → both_of r (λ k. record { yes = Bottom; no = Top }) (FlatProposition p) ≡ both_forms r (Proposition p)
proposition_forms true p = refl
proposition_forms false p = refl

module _ (r : Bool) where
  -- the forms of a node are those of its formula, where they are for its operands
  pub forms_of_node : (f : ℕ → Formula) (g : ℕ → Both) (v : FlatNode) → ((j : ℕ) → Has (flat_parts v) j → g j ≡ both_forms r (f j)) → both_of r g v ≡ both_forms r (formula_of f v)
  forms_of_node f g (FlatConstant b) same = constant_forms r b
  forms_of_node f g (FlatProposition p) same = proposition_forms r p
  forms_of_node f g (FlatUnary op i) same = ap (both_unary r op) (same i (inl refl)) ∙ unary_forms r op (f i)
  forms_of_node f g (FlatBinary op i j) same =
      let p = same i (inl refl) in
      let q = same j (inr (inl refl)) in
      (λ t. both_binary r op (p t) (q t)) ∙ binary_forms r op (f i) (f j)
