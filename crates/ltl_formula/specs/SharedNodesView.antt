-- The nodes of the hash-consed graph, and the normal forms that they stand for.
use Rattle.std.specs.Prelude.{◌≡◌, ◌<◌, ℕ, Bool, List, map}
use Rattle.ltl_sets.specs.Literals.{literal_of}
use Rattle.ltl_spec.specs.NormalForms.Normal.{Normal}
use Rattle.ltl_spec.specs.NormalForms.SharedNodes.{Node, TopNode, BottomNode, LeafNode, NextNode, AndNode, OrNode, UntilNode, ReleaseNode}
use Rattle.ltl_spec.specs.NormalForms.SharedRewriting.{IsMore, StandsFor}
use Rattle.ltl_formula.specs.declared.row.Row.{Row}
use Rattle.ltl_formula.specs.declared.row.Row.TheVariants as row

abbrev pub node_of : Row → Node
node_of row.True = TopNode
node_of row.False = BottomNode
node_of (row.Literal l) = LeafNode (literal_of l)
node_of (row.Next i) = NextNode i
node_of (row.And i j) = AndNode i j
node_of (row.Or i j) = OrNode i j
node_of (row.Until i j) = UntilNode i j
node_of (row.Release i j) = ReleaseNode i j

-- the nodes of a graph, and whether nodes are rewritten when they are built
pub record SharedNodesView : Type 0 where
  pub nodes : List Node
  pub rewrite : Bool

-- the graph of these nodes of the code
abbrev pub shared_nodes_of : List Row → Bool → SharedNodesView
shared_nodes_of ks rewrite = record { nodes = map node_of ks; rewrite = rewrite }

-- the new graph has the nodes of the old one, and its node k stands for this tree
pub record Makes (old new : SharedNodesView) (k : ℕ) (F : Normal) : Type 0 where
  pub rewrite : new.rewrite ≡ old.rewrite
  pub keeps : IsMore old.nodes new.nodes
  pub stands : StandsFor new.nodes k F

-- the operands are among the first n
abbrev pub IsBelow : ℕ → Row → Type 0
IsBelow n row.True = Unit {0}
IsBelow n row.False = Unit {0}
IsBelow n (row.Literal l) = Unit {0}
IsBelow n (row.Next i) = i < n
IsBelow n (row.And i j) = (i < n) × (j < n)
IsBelow n (row.Or i j) = (i < n) × (j < n)
IsBelow n (row.Until i j) = (i < n) × (j < n)
IsBelow n (row.Release i j) = (i < n) × (j < n)
