use Rattle.std.proofs.Common.{◌≡◌, ◌++◌, drop}
use Rattle.ltl_formula.specs.TableView.{places_by, is_until_row}
use Rattle.ltl_formula.proofs.places.until_places.Given as goal

abbrev pub invariant-places : goal.invariant-places
invariant-places g l = l.places.items ++ places_by (λ _ r. is_until_row r) l.place (drop l.place l.rows) ≡ places_by (λ _ r. is_until_row r) 0 l.rows
