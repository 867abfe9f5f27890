use Rattle.std.proofs.Common.{◌≡◌, ◌++◌, drop, length}
use Rattle.ltl_formula.specs.TableView.{places_by, is_elementary_of}
use Rattle.ltl_formula.proofs.places.elementary_places.Given as goal

abbrev pub invariant-places : goal.invariant-places
invariant-places g l = l.places.items ++ places_by (is_elementary_of (length l.rows)) l.place (drop l.place l.rows) ≡ places_by (is_elementary_of (length l.rows)) 0 l.rows
