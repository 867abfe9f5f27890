use Rattle.std.proofs.Common.{◌≡◌, take, true}
use Rattle.ltl_spec.specs.Collections.Lists.{places_where}
use Rattle.ltl_alt.specs.TransitionView.{table_at}
use Rattle.ltl_alt.proofs.marks.every.Given as goal

abbrev pub invariant-untils : goal.invariant-untils
invariant-untils g l = l.every ≡ places_where (λ F. true) (take l.number (table_at l.table).untils)
