use Rattle.std.proofs.Common.{◌≡◌, drop, map}
use Rattle.std.specs.List.{list_any}
use Rattle.ltl_spec.specs.Formulas.Tokens.{same_name}
use Rattle.ltl_pictures.proofs.propositions.is_listed.Given as goal

abbrev pub invariant-loop-k : goal.invariant-loop-k
invariant-loop-k l = list_any (same_name l.name) (drop l.k (map (λ n. n.now) l.names)) ≡ list_any (same_name l.name) (map (λ n. n.now) l.names)
