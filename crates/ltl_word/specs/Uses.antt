-- The last uses of nodes, and which bit vectors are still needed.
use Rattle.std.specs.Prelude.{◌≡◌, ℕ, ◌-◌, ◌<◌, ◌≤◌, List, [], length, slice_index_or, false}
use Rattle.ltl_syntax.specs.declared.operators.Node.{Node}
use Rattle.ltl_syntax.specs.declared.operators.Node.TheVariants.{Constant, Proposition, Unary, Binary}

-- no operand of the node of that number is used for the last time before it
abbrev pub IsUsedAt : List ℕ → ℕ → Node → Type 0
IsUsedAt last_uses i (Constant b) = Unit {0}
IsUsedAt last_uses i (Proposition p) = Unit {0}
IsUsedAt last_uses i (Unary op a) = i ≤ slice_index_or last_uses a 0
IsUsedAt last_uses i (Binary op a b) = (i ≤ slice_index_or last_uses a 0) × (i ≤ slice_index_or last_uses b 0)

-- no node uses another one behind the number that is given for it, and the last node is used behind all
pub record AreLastUses (nodes : List Node) (last_uses : List ℕ) : Type 0 where
  pub long : length last_uses ≡ length nodes
  pub used : (i : ℕ) → i < length nodes → IsUsedAt last_uses i (slice_index_or nodes i (Constant false))
  pub whole : length nodes ≤ slice_index_or last_uses (length nodes - 1) 0

-- as many rows, and those that are used behind node i are the same
abbrev pub KeepsLater : List ℕ → ℕ → List (List ℕ) → List (List ℕ) → Type 0
KeepsLater last_uses i old new =
    (length new ≡ length old)
    × ((k : ℕ) → i < slice_index_or last_uses k 0 → slice_index_or new k [] ≡ slice_index_or old k [])

-- a node's row is its own, but that of a proposition is kept by the proposition's number
abbrev pub row_by : List (List ℕ) → List ℕ → Node → List ℕ
row_by names own (Constant b) = own
row_by names own (Proposition p) = slice_index_or names p []
row_by names own (Unary op a) = own
row_by names own (Binary op a b) = own
