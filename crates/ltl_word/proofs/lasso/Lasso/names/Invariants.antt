use Rattle.std.proofs.Common.{◌≡◌, ◌++◌, drop, map}
use Rattle.std.specs.Prelude.{flat_map}
use Rattle.ltl_word.specs.LassoView.{letter_of}
use Rattle.ltl_word.proofs.lasso.Lasso.names.Given as goal

abbrev pub invariant-loop-i : goal.invariant-loop-i
invariant-loop-i g l =
    map (λ n. n.now) l.list.items ++ flat_map (letter_of (map (λ n. n.items) l.names)) (drop l.i l.self-inside.letters.items) ≡ flat_map (letter_of (map (λ n. n.items) l.names)) l.self-inside.letters.items
