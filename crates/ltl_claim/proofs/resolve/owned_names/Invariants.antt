use Rattle.std.proofs.Common.{◌≡◌, ◌++◌, map, string_bytes}
use Rattle.ltl_claim.proofs.resolve.owned_names.Given as goal

abbrev pub invariant-loop-name : goal.invariant-loop-name
invariant-loop-name g l = record {
  owned : map string_bytes l.owned.items ≡ map (λ k. k.now.now) l.yielded;
  rest : map (λ k. k.now) l.yielded ++ l.name-iterator ≡ l.names.keys;
}
