use Rattle.std.proofs.Common.{◌≡◌, ◌∙◌, ◌+◌, ◌<◌, ℕ, ap, sym, arith, length}
use Rattle.std.specs.Prelude.{slice_index}
use Rattle.ltl_word.specs.Rows.{is_set}
use Rattle.ltl_word.proofs.BitLemmas.{bit_behind, count_push, each_pushed, lowest_bit}
use Rattle.ltl_word.proofs.bits.Bits.shifted.Goals.{then-k-len, else-k-len}
use Rattle.ltl_word.proofs.bits.Bits.shifted.Goals as goal

pub loop-k-preserved : goal.loop-k-preserved
loop-k-preserved g c =
    let words = c.args.self.now in
    let kept = c.loop-k.invariant in
    let long = kept.long in
    let pushed = c.in_ok-push.ensures.ok in
    let seen : c.deref-in-loop-k.result.now ≡ words = c.deref-in-loop-k.ensures ∙ c.self.view_is in
    let same = ap length c.self.view_is in
    let count = c.len-in-loop-k.ensures.value in
    record {
      long = count_push c.loop-k.words.items c.shifted.result c.push.new.self.items c.loop-k.k pushed long;
      before = each_pushed (λ k word. (j : ℕ) → j < 63 → is_set word j ≡ is_set (slice_index words k) (j + 1)) c.loop-k.words.items c.push.new.self.items c.shifted.result 0 pushed kept.before (λ j m. c.shifted.ensures.before j m ∙ ap (λ ws. is_set (slice_index ws c.loop-k.k) (j + 1)) seen ∙ ap (λ k. is_set (slice_index words k) (j + 1)) (sym long));
      last = each_pushed (λ k word. k + 1 < length words → is_set word 63 ≡ is_set (slice_index words (k + 1)) 0) c.loop-k.words.items c.push.new.self.items c.shifted.result 0 pushed kept.last (λ m. c.shifted.ensures.last ∙ elim c.if-k-len.branch [ then-k-len w ↦ w.last-is ∙ lowest_bit _ ∙ ap (λ ws. is_set (slice_index ws (c.loop-k.k + 1)) 0) (w.deref.ensures ∙ c.self.view_is) ∙ ap (λ k. is_set (slice_index words (k + 1)) 0) (sym long) | else-k-len w ↦ (let end = w.if-k-len.false in absurd (omega (arith, end, count, same, long, m))) ]);
    }

pub returns : goal.returns
returns g c =
    let behind = c.loop-k-test.false in
    let before = c.loop-k.auto.k-end in
    let long = c.loop-k.invariant.long in
    let value = c.len-k-end.ensures.value in
    let same = ap length c.self.view_is in
    let all : length c.loop-k.words.items ≡ length c.args.self.now = omega (arith, behind, before, long, value, same) in
    record { long = all; bits = bit_behind c.args.self.now c.loop-k.words.items all c.loop-k.invariant.before c.loop-k.invariant.last }
