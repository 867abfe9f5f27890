-- Which normal forms of the nodes of a formula are needed.
use Rattle.std.specs.Prelude.{◌≡◌, ◌<◌, ◌≤◌, ℕ, Bool, true, false, not, if◌then◌else◌, List, length, slice_index_or}
use Rattle.ltl_syntax.specs.declared.operators.Node.{Node}
use Rattle.ltl_syntax.specs.declared.operators.Node.TheVariants.{Constant, Proposition, Unary, Binary}
use Rattle.ltl_syntax.specs.declared.operators.UnaryOperator.{UnaryOperator}
use Rattle.ltl_syntax.specs.declared.operators.UnaryOperator.TheVariants as unary
use Rattle.ltl_syntax.specs.declared.operators.BinaryOperator.{BinaryOperator}
use Rattle.ltl_syntax.specs.declared.operators.BinaryOperator.TheVariants as binary
use Rattle.ltl_formula.specs.declared.needs.Need.{Need}

-- the form of the negation is needed, or at `false` that of the formula
abbrev pub IsNeeded : Need → Bool → Type 0
IsNeeded need negate = (if negate then need.negative else need.positive) ≡ true

-- what is needed of the node with this number
abbrev pub need_at : List Need → ℕ → Need
need_at needs k = slice_index_or needs k (record { positive = false; negative = false })

-- the form of the operand that such a form of a prefix operator is made of has P
abbrev pub HasOperandForm : (Bool → Type 0) → UnaryOperator → Bool → Type 0
HasOperandForm P unary.Not negate = P (not negate)
HasOperandForm P _ negate = P negate

-- the forms of the left operand that such a form of an infix operator is made of have P
abbrev pub HasLeftForms : (Bool → Type 0) → BinaryOperator → Bool → Type 0
HasLeftForms P binary.Iff negate = P true × P false
HasLeftForms P binary.Implies negate = P (not negate)
HasLeftForms P _ negate = P negate

-- those of the right operand
abbrev pub HasRightForms : (Bool → Type 0) → BinaryOperator → Bool → Type 0
HasRightForms P binary.Iff negate = P true × P false
HasRightForms P _ negate = P negate

-- the forms of other nodes that such a form of a node is made of have P
abbrev pub HasOperandForms : (Bool → ℕ → Type 0) → Node → Bool → Type 0
HasOperandForms P (Constant b) negate = Unit {0}
HasOperandForms P (Proposition p) negate = Unit {0}
HasOperandForms P (Unary op i) negate = HasOperandForm (λ m. P m i) op negate
HasOperandForms P (Binary op i j) negate = HasLeftForms (λ m. P m i) op negate × HasRightForms (λ m. P m j) op negate

-- what these forms of a node are made of is needed
abbrev pub AreMarked : List Need → Node → Need → Type 0
AreMarked needs v need = (negate : Bool) → IsNeeded need negate → HasOperandForms (λ m k. IsNeeded (need_at needs k) m) v negate

-- from node i on, what each needed form is made of is needed too
abbrev pub AreClosedFrom : ℕ → List Node → List Need → Type 0
AreClosedFrom i nodes needs = (k : ℕ) → i ≤ k → k < length nodes → AreMarked needs (slice_index_or nodes k (Constant false)) (need_at needs k)

-- there is an entry for each node, and what each needed form is made of is needed too
pub record AreClosed (nodes : List Node) (needs : List Need) : Type 0 where
  pub long : length needs ≡ length nodes
  pub each : AreClosedFrom 0 nodes needs

-- more is needed of the first n nodes, and of the others nothing new
pub record IsWider (n : ℕ) (old new : List Need) : Type 0 where
  pub long : length new ≡ length old
  pub keeps : (k : ℕ) (negate : Bool) → IsNeeded (need_at old k) negate → IsNeeded (need_at new k) negate
  pub above : (k : ℕ) → n ≤ k → need_at new k ≡ need_at old k
