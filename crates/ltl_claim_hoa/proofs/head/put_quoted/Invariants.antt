use Rattle.std.proofs.Common.{◌≡◌, ◌++◌, ◌∷◌, map, string_bytes}
use Rattle.std.specs.Prelude.{take, flat_map}
use Rattle.ltl_spec.specs.Automata.HoaText.{quoted}
use Rattle.ltl_claim_hoa.proofs.head.put_quoted.Given as goal

abbrev pub invariant-names : goal.invariant-names
invariant-names g l = l.text.items ≡ l.fn.text.items ++ flat_map (λ n. 32 ∷ quoted n) (take l.i (map string_bytes l.names))
