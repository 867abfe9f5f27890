-- The choice of a rewriting rule: a node that is there, or a new one.
use Rattle.std.specs.Prelude.{ℕ, ◌<◌}
use Rattle.ltl_spec.specs.NormalForms.SharedNodes.{AllBefore}
use Rattle.ltl_spec.specs.NormalForms.SharedRewriting as law
use Rattle.ltl_formula.specs.SharedNodesView.{node_of}
use Rattle.ltl_formula.specs.declared.rewriting.Choice.{Choice}
use Rattle.ltl_formula.specs.declared.rewriting.Choice.TheVariants.{Old, New}

abbrev pub choice_of : Choice → law.Choice
choice_of (Old k) = law.Old k
choice_of (New v) = law.New (node_of v)

-- the number is one of the first n, or all operands of the node are
abbrev pub IsInside : ℕ → Choice → Type 0
IsInside n (Old k) = k < n
IsInside n (New v) = AllBefore n (node_of v)
