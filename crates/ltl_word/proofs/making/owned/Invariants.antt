use Rattle.std.proofs.Common.{◌≡◌, take, map}
use Rattle.ltl_word.proofs.making.owned.Given as goal

abbrev pub invariant-loop-i : goal.invariant-loop-i
invariant-loop-i g l = record {
  owned : map (λ n. n.items) l.owned.items ≡ take l.i (map (λ n. n.now) l.names);
}
