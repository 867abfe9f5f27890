use Rattle.std.proofs.Common.{◌≡◌, ◌++◌, ℕ, ◌<◌, length, map}
use Rattle.ltl_spec.specs.Collections.Sets.{Has}
use Rattle.ltl_alt.specs.ComponentView.{start_of}
use Rattle.ltl_alt.proofs.components.Components.numbers.Given as goal

abbrev pub invariant-members : goal.invariant-members
invariant-members g l = record {
  inside : (k : ℕ) → Has l.rest k → k < length l.self.starts.items;
  numbers : l.numbers.items ++ map (start_of l.self.starts.items) l.rest ≡ map (start_of l.self.starts.items) l.component;
}

abbrev pub decreases-members : goal.decreases-members
decreases-members g l = length l.rest
