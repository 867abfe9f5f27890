use Rattle.std.proofs.Common.{◌≡◌, ◌+◌, ◌<◌, ◌≤◌, ◌∙◌, ap, arith, sym, refl, subst, length, ◌++◌, ◌∷◌, []}
use Rattle.std.specs.Prelude.{slice_index, take}
use Rattle.std.proofs.lemmas.Grind.{common_steps}
use Rattle.ltl_passes.specs.Partition.{IsNumbering}
use Rattle.ltl_passes.proofs.NumberLaws.{step_new, step_old, index_same}
use Rattle.ltl_passes.proofs.TargetLaws.{pushed_longer}
use Rattle.ltl_passes.proofs.quotient.number_classes.Goals as goal
use Rattle.ltl_passes.proofs.quotient.number_classes.Goals.{then-name-s+in_ok-push+in_ok-push-2, else-name-s+in_ok-push-3}

pub loop-s-preserved : goal.loop-s-preserved
loop-s-preserved g c = elim c.if-name-s.branch [
  | then-name-s+in_ok-push+in_ok-push-2 w ↦
      let own : slice_index c.args.names.now c.loop-s.s ≡ c.loop-s.s = w.if-name-s.true in
      let count : w.len.result ≡ length c.loop-s.classes.items = grind (arith, common_steps) in
      let pushed : c.if-name-s.numbers.items ≡ c.loop-s.numbers.items ++ w.len.result ∷ [] = (λ i. (w.numbers-is i).items) ∙ w.in_ok-push.ensures.items in
      let numbers : c.if-name-s.numbers.items ≡ c.loop-s.numbers.items ++ length c.loop-s.classes.items ∷ [] = pushed ∙ ap (λ n. c.loop-s.numbers.items ++ n ∷ []) count in
      let classes : c.if-name-s.classes.items ≡ c.loop-s.classes.items ++ c.loop-s.s ∷ [] = (λ i. (w.classes-is i).items) ∙ w.in_ok-push-2.ensures.items in
      let long : length c.if-name-s.numbers.items ≡ length c.loop-s.numbers.items + 1 = pushed_longer c.loop-s.numbers.items c.if-name-s.numbers.items _ numbers in
      let before = c.loop-s.invariant.long in
      record {
        long = omega (arith, long, before);
        numbering = step_new c.args.names.now c.loop-s.classes.items c.loop-s.numbers.items c.loop-s.s c.requires c.loop-s.invariant.numbering c.loop-s-test.true c.if-name-s.classes.items c.if-name-s.numbers.items own classes numbers;
      }
  | else-name-s+in_ok-push-3 w ↦
      let name = slice_index c.args.names.now c.loop-s.s in
      let numbers : c.if-name-s.numbers.items ≡ c.loop-s.numbers.items ++ w.index-number.result.now ∷ [] = (λ i. (w.numbers-is i).items) ∙ w.in_ok-push-3.ensures.items in
      let classes : c.if-name-s.classes.items ≡ c.loop-s.classes.items = λ i. (w.classes-is i).items in
      let long : length c.if-name-s.numbers.items ≡ length c.loop-s.numbers.items + 1 = pushed_longer c.loop-s.numbers.items c.if-name-s.numbers.items _ numbers in
      let before = c.loop-s.invariant.long in
      let low : name ≤ c.loop-s.s = c.requires.low c.loop-s.s c.loop-s-test.true in
      let other = w.if-name-s.false in
      let below : name < length c.loop-s.numbers.items = omega arith in
      let got : w.index-number.result.now ≡ slice_index c.loop-s.numbers.items name = w.index-number.ensures ∙ index_same c.loop-s.numbers.items name _ below in
      record {
        long = omega (arith, long, before);
        numbering = subst (λ cs. IsNumbering (take (c.loop-s.s + 1) c.args.names.now) cs c.if-name-s.numbers.items) (sym classes)
            (step_old c.args.names.now c.loop-s.classes.items c.loop-s.numbers.items c.loop-s.s c.requires c.loop-s.invariant.numbering c.loop-s-test.true c.if-name-s.numbers.items name w.index-number.result.now refl other got numbers);
      }
]
