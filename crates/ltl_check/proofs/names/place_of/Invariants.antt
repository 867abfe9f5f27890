use Rattle.std.proofs.Common.{◌≡◌, ◌<◌, ℕ, [], false, map}
use Rattle.std.specs.Prelude.{slice_index_or}
use Rattle.ltl_spec.specs.Formulas.Tokens.{same_name}
use Rattle.ltl_check.proofs.names.place_of.Given as goal

abbrev pub invariant-loop-place : goal.invariant-loop-place
invariant-loop-place l = (k : ℕ) → k < l.place → same_name l.name (slice_index_or (map (λ n. n.now) l.names) k []) ≡ false
