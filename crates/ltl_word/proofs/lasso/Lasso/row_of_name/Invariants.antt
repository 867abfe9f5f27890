use Rattle.std.proofs.Common.{◌≤◌, [], length}
use Rattle.std.specs.Prelude.{slice_index_or}
use Rattle.std.specs.Ordering.{nat_cmp}
use Rattle.ltl_spec.specs.Collections.Sets.{has}
use Rattle.ltl_word.specs.Rows.{IsRowFrom}
use Rattle.ltl_word.proofs.lasso.Lasso.row_of_name.Given as goal

abbrev pub invariant-positions : goal.invariant-positions
invariant-positions g l = record {
  below : l.i ≤ length l.self-inside.letters.items;
  bits : IsRowFrom (λ j. has nat_cmp l.place (slice_index_or l.self-inside.letters.items j [])) l.i (length l.self-inside.letters.items) l.row;
}

abbrev pub decreases-positions : goal.decreases-positions
decreases-positions g l = l.i
