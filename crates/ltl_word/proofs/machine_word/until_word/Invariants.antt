use Rattle.std.proofs.Common.{◌≡◌, ◌-◌, ◌<◌, ℕ, false, true}
use Rattle.ltl_word.specs.Rows.{back, is_set}
use Rattle.ltl_word.proofs.BackWords.{never, with_later}
use Rattle.ltl_word.proofs.machine_word.until_word.Given as goal

abbrev pub invariant-doublings : goal.invariant-doublings
invariant-doublings l = record {
  some : 0 < l.ahead;
  comes : (i : ℕ) → is_set l.comes i ≡ back (is_set l.left) (with_later (is_set l.left) (is_set l.right) l.later) l.ahead i false;
  holds : (i : ℕ) → is_set l.holds i ≡ back (is_set l.left) never l.ahead i true;
}

abbrev pub decreases-doublings : goal.decreases-doublings
decreases-doublings l = 64 - l.ahead
