use Rattle.std.proofs.Common.{◌≡◌, length, map, take}
use Rattle.ltl_spec.specs.Formulas.Tokens.{items}
use Rattle.ltl_c.specs.Arrays.{name_row, put_over}
use Rattle.ltl_c.proofs.PlaceLaws.{Finds}
use Rattle.ltl_c.proofs.places.put_names.Given as goal

abbrev pub invariant-tokens : goal.invariant-tokens
invariant-tokens g l = record {
  text : l.tokens.text ≡ l.text;
  finds : Finds (items l.text) l.formula.names l.tokens.rest l.count;
  rows : l.names ≡ put_over (map (name_row (items l.text)) (take l.count l.formula.names)) l.fn.names;
}

abbrev pub decreases-tokens : goal.decreases-tokens
decreases-tokens g l = length l.tokens.rest
