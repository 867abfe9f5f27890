use Rattle.std.proofs.Common.{ℕ, ◌⊎◌, length}
use Rattle.ltl_spec.specs.Collections.Sets.{Has}
use Rattle.ltl_alt.specs.ConjunctTableView.{links_of}
use Rattle.ltl_alt.proofs.conjunct_table.ConjunctTable.linked_with.Given as goal

abbrev pub invariant-members : goal.invariant-members
invariant-members g l = (i j : ℕ) → Has l.inside i → Has (links_of l.self.links.items i) j → Has l.linked j ⊎ Has l.rest i

abbrev pub decreases-members : goal.decreases-members
decreases-members g l = length l.rest
