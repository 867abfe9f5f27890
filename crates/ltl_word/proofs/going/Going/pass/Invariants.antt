use Rattle.std.proofs.Common.{◌≡◌, ◌+◌, ◌-◌, ◌*◌, ◌/◌, ◌<◌, ◌≤◌, ℕ, length}
use Rattle.std.specs.Option.{option_map}
use Rattle.ltl_word.specs.Rows.{back, bit_of, left_at, right_at, turned, IsBackWord}
use Rattle.ltl_word.proofs.going.Going.pass.Given as goal

abbrev pub invariant-words : goal.invariant-words
invariant-words g l =
    let left = left_at l.self.negated (option_map (λ b. b.now) l.self.left) in
    let right = right_at l.self.negated l.self.right.now in
    record {
      most : l.k ≤ l.count / 64;
      long : length l.row ≡ l.count / 64 + 1;
      word : IsBackWord left right l.count l.later (l.k * 64) l.word;
      done : (i : ℕ) → l.k * 64 ≤ i → i < l.count → turned l.self.negated (bit_of l.row i) ≡ back left right (l.count - i) i l.later;
    }

abbrev pub decreases-words : goal.decreases-words
decreases-words g l = l.k
