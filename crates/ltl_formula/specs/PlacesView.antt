-- Nodes with renumbered operands.
use Rattle.std.specs.Prelude.{ℕ}
use Rattle.ltl_spec.specs.NormalForms.SharedNodes.{Node, TopNode, BottomNode, LeafNode, NextNode, AndNode, OrNode, UntilNode, ReleaseNode}

abbrev pub renumbered : (ℕ → ℕ) → Node → Node
renumbered f TopNode = TopNode
renumbered f BottomNode = BottomNode
renumbered f (LeafNode l) = LeafNode l
renumbered f (NextNode i) = NextNode (f i)
renumbered f (AndNode i j) = AndNode (f i) (f j)
renumbered f (OrNode i j) = OrNode (f i) (f j)
renumbered f (UntilNode i j) = UntilNode (f i) (f j)
renumbered f (ReleaseNode i j) = ReleaseNode (f i) (f j)
