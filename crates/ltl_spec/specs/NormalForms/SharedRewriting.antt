-- Rewriting over shared nodes: which number or node stands for the rewritten tree, decided by numbers alone.
use Rattle.std.specs.Prelude.{◌≡◌, ℕ, ◌<◌, ◌≤◌, Bool, false, List, length, ◌==◌, ◌||◌, ◌&&◌, if◌then◌else◌}
use Rattle.ltl_spec.specs.NormalForms.Normal.{Normal, Top, Bottom}
use Rattle.ltl_spec.specs.NormalForms.SharedNodes.{Node, NextNode, AndNode, OrNode, UntilNode, ReleaseNode, tree_of, tree_at, IsShared}

-- the second list has all nodes of the first, under their numbers
pub record IsMore (nodes more : List Node) : Type 0 where
  pub longer : length nodes ≤ length more
  pub old : (k : ℕ) → k < length nodes → tree_at more k ≡ tree_at nodes k

-- the number is there, and stands for this tree
pub record StandsFor (nodes : List Node) (k : ℕ) (F : Normal) : Type 0 where
  pub inside : k < length nodes
  pub tree : tree_at nodes k ≡ F

-- what stands for a tree: a number that is there, or a node, which may be there or not
pub data Choice : Type 0 where
  Old : ℕ → Choice
  New : Node → Choice

-- the tree that is chosen
abbrev pub choice_tree : List Node → Choice → Normal
choice_tree nodes (Old k) = tree_at nodes k
choice_tree nodes (New v) = tree_of (tree_at nodes) v

-- `true U ..` and `false V ..`, by the number of the constant
abbrev pub is_eventually_node : ℕ → Node → Bool
is_eventually_node top (UntilNode i j) = i == top
is_eventually_node top _ = false

-- the other one
abbrev pub is_always_node : ℕ → Node → Bool
is_always_node bottom (ReleaseNode i j) = i == bottom
is_always_node bottom _ = false

-- the table of rewriting over numbers; v is the node of number j
abbrev pub choose_next : ℕ → ℕ → ℕ → Choice
choose_next top bottom i = if i == top || i == bottom then Old i else New (NextNode i)

-- and
abbrev pub choose_and : ℕ → ℕ → ℕ → ℕ → Choice
choose_and top bottom i j =
    if i == top then Old j else
    if j == top then Old i else
    if i == bottom || j == bottom then Old bottom else
    if i == j then Old i else New (AndNode i j)

-- or
abbrev pub choose_or : ℕ → ℕ → ℕ → ℕ → Choice
choose_or top bottom i j =
    if i == bottom then Old j else
    if j == bottom then Old i else
    if i == top || j == top then Old top else
    if i == j then Old i else New (OrNode i j)

-- `U`
abbrev pub choose_until : ℕ → ℕ → ℕ → ℕ → Node → Choice
choose_until top bottom i j v =
    if j == top || j == bottom then Old j else
    if i == bottom || i == j then Old j else
    if i == top && is_eventually_node top v then Old j else New (UntilNode i j)

-- `V`
abbrev pub choose_release : ℕ → ℕ → ℕ → ℕ → Node → Choice
choose_release top bottom i j v =
    if j == top || j == bottom then Old j else
    if i == top || i == j then Old j else
    if i == bottom && is_always_node bottom v then Old j else New (ReleaseNode i j)

-- the nodes are shared, and these numbers stand for the constants
pub record HasConstants (nodes : List Node) (top bottom : ℕ) : Type 0 where
  pub shared : IsShared nodes
  pub top_inside : top < length nodes
  pub bottom_inside : bottom < length nodes
  pub top_is : tree_at nodes top ≡ Top
  pub bottom_is : tree_at nodes bottom ≡ Bottom
