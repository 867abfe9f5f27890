use Rattle.std.proofs.Common.{◌≡◌, drop, map, string_bytes}
use Rattle.std.specs.List.{list_any}
use Rattle.ltl_spec.specs.Formulas.Tokens.{same_name}
use Rattle.ltl_hoa.proofs.names.is_listed.Given as goal

abbrev pub invariant-names : goal.invariant-names
invariant-names g l = list_any (same_name l.name) (map string_bytes (drop l.other-index l.names)) ≡ list_any (same_name l.name) (map string_bytes l.names)
