use Rattle.std.proofs.Common.{◌≡◌, take, map}
use Rattle.ltl_word.specs.LassoView.{letter_of}
use Rattle.ltl_word.proofs.numbered.letters_at.Given as goal

abbrev pub invariant-loop-i : goal.invariant-loop-i
invariant-loop-i g l = record {
  letters : map (λ a. map (λ n. n.now) a.items) l.letters.items ≡ take l.i (map (letter_of (map (λ n. n.now) l.names)) l.rows);
}
