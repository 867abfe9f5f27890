use Rattle.std.proofs.Common.{◌∙◌, ◌<◌, ◌≤◌, ap, arith, sym, subst, map, length, refl}
use Rattle.std.specs.List.{AllByRecursion}
use Rattle.ltl_streams.proofs.PrintLaws.{lacks_all, lacks_end, lacks_step, prints_as, prints_nothing}
use Rattle.ltl_spec.proofs.Collections.MemberLaws.{map_length}
use Rattle.ltl_spec.specs.Words.LassoText.{letter_text}
use Rattle.ltl_word.specs.LassoView.{letter_of}
use Rattle.ltl_word.proofs.TextLaws.{letters_begin, letters_end, letters_go_on, row_inside}
use Rattle.ltl_word.proofs.lasso.Lasso.put.Goals as goal

pub loop-i-init : goal.loop-i-init
loop-i-init g c =
    let word = c.self.inside in
    lacks_step (lacks_all _ _) _ (letters_begin (map (λ n. n.items) word.names.items) word.letters.items word.stem _ c.self.invariant.cycles c.self.view_is) (prints_nothing _)

pub put_letter-requires : goal.put_letter-requires
put_letter-requires g c =
    let word = c.self.inside in
    let lt : c.loop-i.i < length word.letters.items = omega arith in
    let names = map_length (λ n. n.items) word.names.items ∙ sym (ap length c.as_slice.ensures.value) in
    let inside = row_inside (AllByRecursion (λ i. i < length (map (λ n. n.items) word.names.items))) word.letters.items c.index.result.now c.loop-i.i c.self.invariant.within lt c.index.ensures in
    (omega arith, subst (λ n. AllByRecursion (λ i. i < n) c.index.result.now) names inside)

pub loop-i-preserved : goal.loop-i-preserved
loop-i-preserved g c =
    let word = c.self.inside in
    let lt : c.loop-i.i < length word.letters.items = omega arith in
    let e = letters_go_on (map (λ n. n.items) word.names.items) word.letters.items word.stem c.loop-i.i c.index.result.now lt c.index.ensures in
    let same = ap (λ ns. letter_text (letter_of (map (λ n. n.items) ns) c.index.result.now)) c.as_slice.ensures.value in
    lacks_step (lacks_step c.loop-i.invariant _ e (prints_as c.front.ensures c.put.ensures)) _ refl (prints_as same c.put_letter.ensures)

pub returns : goal.returns
returns g c =
    let word = c.self.inside in
    let le : length word.letters.items ≤ c.loop-i.i = omega arith in
    lacks_end c.loop-i.invariant (letters_end (map (λ n. n.items) word.names.items) word.letters.items word.stem c.loop-i.i le)
