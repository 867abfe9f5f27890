use Rattle.std.proofs.Common.{length, ◌-◌, ◌<◌, ◌≤◌, ℕ, [], map}
use Rattle.std.specs.Prelude.{◌≢◌, slice_index_or}
use Rattle.ltl_word.proofs.lasso.place_of.Given as goal

abbrev pub invariant-names : goal.invariant-names
invariant-names g l = record {
  within : l.at ≤ length l.names;
  earlier : (k : ℕ) → k < l.at → slice_index_or (map (λ n. n.items) l.names) k [] ≢ l.name;
}

abbrev pub decreases-names : goal.decreases-names
decreases-names g l = length l.names - l.at
