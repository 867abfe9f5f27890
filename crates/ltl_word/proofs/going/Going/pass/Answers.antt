use Rattle.std.proofs.Common.{◌≡◌, ◌∙◌, ◌+◌, ◌-◌, ◌*◌, ◌<◌, ◌≤◌, ap, subst, arith, length}
use Rattle.std.specs.Option.{option_map}
use Rattle.std.proofs.Common.{length-set}
use Rattle.ltl_word.specs.Rows.{back, bit_of, left_at, right_at, turned, IsBackWord}
use Rattle.ltl_word.proofs.BackWords.{back_word, row_word}
use Rattle.ltl_word.proofs.BitLemmas.{lowest_bit}
use Rattle.ltl_word.proofs.going.Going.pass.Goals as goal

pub words-preserved : goal.words-preserved
words-preserved g c =
    let left = left_at c.args.self.now.negated (option_map (λ b. b.now) c.args.self.now.left) in
    let right = right_at c.args.self.now.negated c.args.self.now.right.now in
    let negated = c.args.self.now.negated in
    let count = c.args.count in
    let later = c.args.later in
    let h = c.words.invariant in
    let some : 0 < c.words.k = c.words-test.true in
    let most = h.most in
    let k = c.words.k - 1 in
    let again : c.words.k * 64 ≡ k * 64 + 64 = omega (arith, some) in
    let inside : k * 64 + 64 ≤ count = omega (arith, some, most) in
    let long = h.long in
    let within : k < length c.words.row = omega (arith, some, most, long) in
    let word : IsBackWord left right count later (k * 64) c.until_word-word.result =
    back_word left right count (k * 64) c.left_word.result c.right_word.result c.words.word c.until_word-word.result later _
    (subst (λ n. IsBackWord left right count later n c.words.word) again h.word) (lowest_bit c.words.word) inside c.left_word.ensures c.right_word.ensures c.until_word-word.ensures in
    record {
      most = omega (arith, some, most);
      long = ap length c.set_word-in-words.ensures ∙ length-set c.words.row k c.turned-in-words.result ∙ long;
      word = word;
      done = λ i m n. ap (λ r. turned negated (bit_of r i)) c.set_word-in-words.ensures
          ∙ row_word negated (λ j. back left right (count - j) j later) count k c.until_word-word.result c.turned-in-words.result c.words.row within word c.turned-in-words.ensures
          (λ j a b. h.done j (omega (arith, a, some)) b) i m n;
    }
