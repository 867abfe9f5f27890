-- The normal forms of a formula and of its negation, as numbers of nodes.
use Rattle.std.specs.Prelude.{◌≡◌, ◌<◌, ℕ, Bool, true, if◌then◌else◌, List, length, slice_index_or}
use Rattle.ltl_spec.specs.NormalForms.Normal.{Normal}
use Rattle.ltl_spec.specs.NormalForms.BothPolarities.{Both, FlatNode, FlatConstant, FlatProposition, FlatUnary, FlatBinary}
use Rattle.ltl_spec.specs.NormalForms.SharedNodes.{tree_at}
use Rattle.ltl_spec.specs.NormalForms.SharedRewriting.{IsMore, StandsFor}
use Rattle.ltl_syntax.specs.FormulaView.{unary_of, binary_of}
use Rattle.ltl_formula.specs.SharedNodesView.{SharedNodesView}
use Rattle.ltl_formula.specs.NeedsView.{IsNeeded}
use Rattle.ltl_syntax.specs.declared.operators.Node.{Node}
use Rattle.ltl_syntax.specs.declared.operators.Node.TheVariants.{Constant, Proposition, Unary, Binary}
use Rattle.ltl_formula.specs.declared.needs.Need.{Need}
use Rattle.ltl_formula.specs.declared.polarity.Forms.{Forms}

-- the form of the negation, or at `false` that of the formula
abbrev pub form_of : Bool → Both → Normal
form_of negate x = if negate then x.no else x.yes

-- the number of that form
abbrev pub number_of : Bool → Forms → ℕ
number_of negate p = if negate then p.negative else p.positive

-- the normal forms that these numbers stand for
abbrev pub forms_at : SharedNodesView → Forms → Both
forms_at g p = record { yes = tree_at g.nodes p.positive; no = tree_at g.nodes p.negative }

-- the numbers of the forms of node k of the formula
abbrev pub numbers_in : List Forms → ℕ → Forms
numbers_in done k = slice_index_or done k (record { positive = 0; negative = 0 })

-- the normal forms that they stand for
abbrev pub forms_in : SharedNodesView → List Forms → ℕ → Both
forms_in g done k = forms_at g (numbers_in done k)

-- the number of this form is that of a node of the graph
abbrev pub IsThere : SharedNodesView → Forms → Bool → Type 0
IsThere g p negate = number_of negate p < length g.nodes

-- and so is that of this form of node k of the formula
abbrev pub IsThereAt : SharedNodesView → List Forms → Bool → ℕ → Type 0
IsThereAt g done negate k = IsThere g (numbers_in done k) negate

-- the new graph has the nodes of the old one, and its node k stands for this tree if that is asked for
pub record MakesIf (is_needed : Bool) (old new : SharedNodesView) (k : ℕ) (F : Normal) : Type 0 where
  pub rewrite : new.rewrite ≡ old.rewrite
  pub keeps : IsMore old.nodes new.nodes
  pub stands : is_needed ≡ true → StandsFor new.nodes k F

-- the new graph has the nodes of the old one, and the numbers of the needed forms stand for them
pub record MakesNeeded (old new : SharedNodesView) (need : Need) (p : Forms) (x : Both) : Type 0 where
  pub rewrite : new.rewrite ≡ old.rewrite
  pub keeps : IsMore old.nodes new.nodes
  pub stands : (negate : Bool) → IsNeeded need negate → StandsFor new.nodes (number_of negate p) (form_of negate x)

abbrev pub flat_of : Node → FlatNode
flat_of (Constant b) = FlatConstant b
flat_of (Proposition p) = FlatProposition p
flat_of (Unary op i) = FlatUnary (unary_of op) i
flat_of (Binary op i j) = FlatBinary (binary_of op) i j
