use Rattle.std.proofs.Common.{◌≡◌, ◌∙◌, ◌+◌, ◌*◌, ◌≤◌, ◌||◌, ◌&&◌, ℕ, ap, ap₂, sym, arith, false, true, nat_eq, bit_and}
use Rattle.std.proofs.Math.Bool.{or-false, and-false, and-true}
use Rattle.ltl_word.specs.Rows.{back, is_set}
use Rattle.ltl_word.proofs.BackWords.{comes_twice, holds_twice, never, one_comes, one_place, with_later, word_ahead, word_later}
use Rattle.ltl_word.proofs.BitLemmas.{none_above, one_and, one_bit, one_or, one_shr}
use Rattle.ltl_word.proofs.machine_word.until_word.Goals.{then-later, else-later}
use Rattle.ltl_word.proofs.machine_word.until_word.Goals as goal

pub doublings-init : goal.doublings-init
doublings-init c =
    let left = c.args.left in
    let right = c.args.right in
    let first : (i : ℕ) → is_set c.if-later.comes i ≡ with_later (is_set left) (is_set right) c.args.later i = λ i.
    elim c.if-later.branch as (λ b. is_set c.if-later.comes i ≡ with_later (is_set left) (is_set right) c.args.later i) [
      | then-later w ↦
          ap (λ x. is_set x i) w.comes-is ∙ one_or right (bit_and left 9223372036854775808) i
          ∙ ap (λ t. is_set right i || t) (one_and left 9223372036854775808 i ∙ ap (λ t. is_set left i && t) (one_bit 63 i (omega arith) ∙ sym (and-true (nat_eq i 63)) ∙ ap (λ t. nat_eq i 63 && t) (sym w.if-later.true)))
      | else-later w ↦
          ap (λ x. is_set x i) w.comes-is ∙ sym (or-false (is_set right i))
          ∙ ap (λ t. is_set right i || t) (sym (and-false (is_set left i)) ∙ ap (λ t. is_set left i && t) (sym (and-false (nat_eq i 63)) ∙ ap (λ t. nat_eq i 63 && t) (sym w.if-later.false)))
    ] in
    record {
      some = omega arith;
      comes = λ i. one_comes (is_set left) (is_set right) (is_set c.if-later.comes) c.args.later i (first i);
      holds = λ i. one_place (is_set left) i;
    }

pub doublings-preserved : goal.doublings-preserved
doublings-preserved c =
    let left = is_set c.args.left in
    let right = with_later left (is_set c.args.right) c.args.later in
    let ahead = c.doublings.ahead in
    let twice : ahead + ahead ≡ ahead * 2 = omega arith in
    let h = c.doublings.invariant in
    let p = h.some in
    record {
      some = omega (arith, p);
      comes = λ i.
          one_or c.doublings.comes _ i
          ∙ ap₂ (λ s t. s || t) (h.comes i) (one_and c.doublings.holds _ i ∙ ap₂ (λ s t. s && t) (h.holds i) (one_shr c.doublings.comes ahead i ∙ h.comes (i + ahead)))
          ∙ sym (comes_twice left right ahead i) ∙ ap (λ k. back left right k i false) twice;
      holds = λ i.
          one_and c.doublings.holds _ i ∙ ap₂ (λ s t. s && t) (h.holds i) (one_shr c.doublings.holds ahead i ∙ h.holds (i + ahead))
          ∙ sym (holds_twice left ahead i) ∙ ap (λ k. back left never k i true) twice;
    }

pub returns : goal.returns
returns c = λ k l.
    let left = is_set c.args.left in
    let right = with_later left (is_set c.args.right) c.args.later in
    let far : 64 ≤ c.doublings.ahead = let f = c.doublings-test.false in omega (arith, f) in
    let lefts : (j : ℕ) → 64 ≤ j → left j ≡ false = λ j m. none_above c.args.left j c.ranges.left.fits m in
    let rights : (j : ℕ) → 64 ≤ j → right j ≡ false = λ j m. ap₂ (λ s t. s || t && (nat_eq j 63 && c.args.later)) (none_above c.args.right j c.ranges.right.fits m) (lefts j m) in
    c.doublings.invariant.comes k ∙ word_ahead left right c.doublings.ahead k lefts rights far l ∙ word_later left (is_set c.args.right) k c.args.later l
