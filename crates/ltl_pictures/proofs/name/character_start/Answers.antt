use Rattle.std.proofs.Common.{◌≡◌, ◌∙◌, ◌-◌, ap, arith, suc, sym}
use Rattle.ltl_pictures.specs.NameText.{character_start}
use Rattle.ltl_pictures.proofs.CutLaws.{start_at_zero, start_moves, start_stays}
use Rattle.ltl_pictures.proofs.name.character_start.Goals as goal

pub bytes-preserved : goal.bytes-preserved
bytes-preserved c =
    let one_more : c.bytes.start ≡ suc (c.bytes.start - 1) = omega (arith, c.bytes-test.true) in
    record {
      within = omega (arith, c.bytes.invariant.within);
      same = start_moves c.args.bytes.now _ _ one_more (sym c.is_continuation.ensures ∙ c.if-is_continuation.true) ∙ c.bytes.invariant.same;
    }

pub returns-else-is_continuation : goal.returns-else-is_continuation
returns-else-is_continuation c = start_stays c.args.bytes.now _ (sym c.is_continuation.ensures ∙ c.if-is_continuation.false) ∙ c.bytes.invariant.same

pub returns-after-bytes : goal.returns-after-bytes
returns-after-bytes c =
    let none : c.bytes.start ≡ 0 = omega (arith, c.bytes-test.false) in
    none ∙ sym (start_at_zero c.args.bytes.now) ∙ ap (character_start c.args.bytes.now) (sym none) ∙ c.bytes.invariant.same
