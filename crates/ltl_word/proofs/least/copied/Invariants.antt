use Rattle.std.proofs.Common.{◌≡◌, take, map}
use Rattle.ltl_word.proofs.least.copied.Given as goal

abbrev pub invariant-loop-i : goal.invariant-loop-i
invariant-loop-i g l = record {
  copied : map (λ n. n.items) l.copied.items ≡ take l.i (map (λ n. n.items) l.names);
}
