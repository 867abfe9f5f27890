-- Formulas in normal form as a list of shared nodes, in which each node stands behind its operands and no node twice.
use Rattle.std.specs.Prelude.{◌≡◌, ℕ, ◌<◌, List, [], ◌∷◌, ◌++◌, length, fold, slice_index_or}
use Rattle.ltl_spec.specs.Collections.Sets.{Has}
use Rattle.ltl_spec.specs.Transitions.Cubes.{Literal}
use Rattle.ltl_spec.specs.NormalForms.Normal.{Normal, Top, Bottom, Leaf, Next, And, Or, Until, Release}

-- a node with the numbers of its operands
pub data Node : Type 0 where
  TopNode BottomNode : Node
  LeafNode : Literal → Node
  NextNode : ℕ → Node
  AndNode OrNode UntilNode ReleaseNode : ℕ → ℕ → Node

-- the numbers of its operands
abbrev pub parts_of : Node → List ℕ
parts_of TopNode = []
parts_of BottomNode = []
parts_of (LeafNode l) = []
parts_of (NextNode i) = i ∷ []
parts_of (AndNode i j) = i ∷ j ∷ []
parts_of (OrNode i j) = i ∷ j ∷ []
parts_of (UntilNode i j) = i ∷ j ∷ []
parts_of (ReleaseNode i j) = i ∷ j ∷ []

-- the tree of that number
abbrev pub tree_in : List Normal → ℕ → Normal
tree_in ts k = slice_index_or ts k Bottom

-- the tree that a node stands for, given those of the numbers
abbrev pub tree_of : (ℕ → Normal) → Node → Normal
tree_of f TopNode = Top
tree_of f BottomNode = Bottom
tree_of f (LeafNode l) = Leaf l
tree_of f (NextNode i) = Next (f i)
tree_of f (AndNode i j) = And (f i) (f j)
tree_of f (OrNode i j) = Or (f i) (f j)
tree_of f (UntilNode i j) = Until (f i) (f j)
tree_of f (ReleaseNode i j) = Release (f i) (f j)

-- the trees with that of one more node
abbrev pub with_tree : List Normal → Node → List Normal
with_tree ts v = ts ++ tree_of (tree_in ts) v ∷ []

-- the trees of a list of nodes
abbrev pub trees : List Node → List Normal
trees nodes = fold with_tree [] nodes

-- the tree that a number stands for
abbrev pub tree_at : List Node → ℕ → Normal
tree_at nodes k = tree_in (trees nodes) k

-- the node of that number
abbrev pub node_at : List Node → ℕ → Node
node_at nodes k = slice_index_or nodes k BottomNode

-- all operands are among the first n nodes
abbrev pub AllBefore : ℕ → Node → Type 0
AllBefore n v = (j : ℕ) → Has (parts_of v) j → j < n

-- each node stands behind its operands and for its tree, and no two stand for one tree
pub record IsShared (nodes : List Node) : Type 0 where
  pub ordered : (k : ℕ) → k < length nodes → AllBefore k (node_at nodes k)
  pub stands : (k : ℕ) → k < length nodes → tree_at nodes k ≡ tree_of (tree_at nodes) (node_at nodes k)
  pub apart : (i j : ℕ) → i < length nodes → j < length nodes → tree_at nodes i ≡ tree_at nodes j → i ≡ j
