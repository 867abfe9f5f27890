use Rattle.std.proofs.Common.{◌≡◌, ◌<◌, ℕ, [], length, map}
use Rattle.std.specs.Prelude.{slice_index_or}
use Rattle.ltl_spec.specs.Collections.Lists.{place_of}
use Rattle.ltl_spec.specs.Formulas.Tokens.{same_name}
use Rattle.ltl_check.specs.ProductView.{number_in}
use Rattle.ltl_check.proofs.names.numbers.Given as goal

abbrev pub invariant-loop-i : goal.invariant-loop-i
invariant-loop-i g l = record {
  count : length l.numbers.items ≡ l.i;
  are : (p : ℕ) → p < l.i → number_in l.numbers.items p ≡ place_of same_name (slice_index_or l.formula.names p []) (map (λ n. n.now) l.names);
}
