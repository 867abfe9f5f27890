use Rattle.std.proofs.Common.{ℕ, ◌<◌}
use Rattle.ltl_spec.specs.Collections.Sets.{Has}
use Rattle.ltl_alt.proofs.place.elementary_places.Given as goal

abbrev pub invariant-places : goal.invariant-places
invariant-places g l = record {
  all : (i : ℕ) → i < l.place → Has l.places i;
  inside : (i : ℕ) → Has l.places i → i < l.place;
}
