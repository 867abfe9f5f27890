use Rattle.std.proofs.Common.{◌≡◌, ◌∙◌, sym, subst, cond, List, ℕ}
use Rattle.std.specs.Bool.{Decides}
use Rattle.ltl_sets.specs.Words.{Reaches}
use Rattle.ltl_sets.specs.WordLaws.{IsWords-xor}
use Rattle.ltl_sets.proofs.LaneLaws.{found_none, found_some, chosen_first, chosen_second}
use Rattle.ltl_sets.proofs.RowSetLaws.{cmp_same, cmp_differing}
use Rattle.ltl_sets.proofs.row_set.RowSet.cmp_list.Goals as goal
use Rattle.ltl_sets.proofs.row_set.RowSet.cmp_list.Goals.{then-is_mine, else-is_mine}

pub lowest-requires : goal.lowest-requires
lowest-requires c = IsWords-xor c.self.inside.lanes c.other.inside.lanes c.self.invariant c.other.invariant

pub returns-in_default : goal.returns-in_default
returns-in_default c =
    rw (← c.self.view_is, ← c.other.view_is)
    (sym (cmp_same c.self.inside.lanes c.other.inside.lanes c.self.invariant c.other.invariant (found_none _ c.lowest.result c.lowest.ensures c.in_default.is)))

pub returns : goal.returns
returns c =
    let other = c.other.inside.lanes in
    let own = c.self.inside.lanes in
    let lacking : c.if-is_mine.lacking ≡ cond c.has-is_mine.result other own =
    elim c.if-is_mine.branch [
      | then-is_mine w ↦ chosen_first c.has-is_mine.result other own c.if-is_mine.lacking w.if-is_mine.true w.lacking-is
      | else-is_mine w ↦ chosen_second c.has-is_mine.result other own c.if-is_mine.lacking w.if-is_mine.false w.lacking-is
    ] in
    rw (← c.self.view_is, ← c.other.view_is)
    (c.list_order.ensures
    ∙ sym (cmp_differing own other c.self.invariant c.other.invariant c.in-Some.i (found_some _ c.lowest.result c.in-Some.i c.lowest.ensures c.in-Some.is)
    c.has-is_mine.result c.reaches.result c.has-is_mine.ensures
    (subst (λ (ws : List ℕ). Decides c.reaches.result (Reaches ws c.in-Some.i)) lacking c.reaches.ensures)))
