use Rattle.std.proofs.Common.{arith, refl}
use Rattle.ltl_hoa.proofs.MarksLaws.{mark_first, one_taken, all_taken, fewer_left}
use Rattle.ltl_hoa.proofs.marks.Marks.to_row_set.Goals as goal

pub sets-smaller : goal.sets-smaller
sets-smaller c =
    fewer_left c.sets.left _ _ (mark_first c.sets.left _ _ (omega (arith, c.sets-test.true)) (omega (arith, c.sets.auto.left-fits)) refl refl)

pub sets-preserved : goal.sets-preserved
sets-preserved c =
    rw (c.insert.ensures)
    (one_taken c.sets.numbers c.args.self.now c.sets.left _ _ (mark_first c.sets.left _ _ (omega (arith, c.sets-test.true)) (omega (arith, c.sets.auto.left-fits)) refl refl) c.sets.invariant)

pub returns : goal.returns
returns c = all_taken c.sets.numbers c.args.self.now c.self.inside.bits c.sets.left c.self.view_is (omega (arith, c.sets-test.false)) c.sets.invariant
