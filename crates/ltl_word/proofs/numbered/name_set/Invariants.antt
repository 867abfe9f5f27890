use Rattle.std.proofs.Common.{◌≡◌, take, map}
use Rattle.ltl_word.proofs.numbered.name_set.Given as goal

abbrev pub invariant-loop-i : goal.invariant-loop-i
invariant-loop-i g l = map (λ n. n.now) l.set.items ≡ take l.i (map (λ n. n.now) l.names)
