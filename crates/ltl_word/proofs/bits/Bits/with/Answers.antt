use Rattle.std.proofs.Common.{◌≡◌, ◌∙◌, ◌/◌, ◌%◌, ◌<◌, ℕ, ap, sym, arith, length}
use Rattle.std.specs.Prelude.{slice_index}
use Rattle.ltl_word.specs.Rows.{is_set, joined}
use Rattle.ltl_word.proofs.BitLemmas.{count_push, each_pushed}
use Rattle.ltl_word.proofs.bits.Bits.with.Goals as goal

pub loop-k-preserved : goal.loop-k-preserved
loop-k-preserved g c =
    let left = c.args.self.now in
    let right = c.args.right.now in
    let op = c.args.junction in
    let at = c.loop-k.k in
    let long = c.loop-k.invariant.long in
    let pushed = c.in_ok-push.ensures.ok in
    let of_left : c.deref.result.now ≡ left = c.deref.ensures ∙ c.self.view_is in
    let of_right : c.deref-in-loop-k.result.now ≡ right = c.deref-in-loop-k.ensures ∙ c.right.view_is in
    record {
      long = count_push c.loop-k.words.items c.word.result c.push.new.self.items at pushed long;
      each = each_pushed (λ k word. (j : ℕ) → j < 64 → is_set word j ≡ joined op (is_set (slice_index left k) j) (is_set (slice_index right k) j)) c.loop-k.words.items c.push.new.self.items c.word.result 0
          pushed c.loop-k.invariant.each
          (λ j m. c.word.ensures j m ∙ ap (λ ws. joined op (is_set (slice_index ws at) j) (is_set (slice_index c.deref-in-loop-k.result.now at) j)) of_left
          ∙ ap (λ ws. joined op (is_set (slice_index left at) j) (is_set (slice_index ws at) j)) of_right
          ∙ ap (λ k. joined op (is_set (slice_index left k) j) (is_set (slice_index right k) j)) (sym long));
    }

pub returns : goal.returns
returns g c =
    let behind = c.loop-k-test.false in
    let before = c.loop-k.auto.k-end in
    let long = c.loop-k.invariant.long in
    let value = c.len-k-end.ensures.value in
    let same = ap length c.self.view_is in
    let all : length c.loop-k.words.items ≡ length c.args.self.now = omega (arith, behind, before, long, value, same) in
    record { long = all; bits = λ i l. c.loop-k.invariant.each (i / 64) (omega (arith, l, all)) (i % 64) (omega arith) }
