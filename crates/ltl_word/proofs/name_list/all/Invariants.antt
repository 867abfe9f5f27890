use Rattle.std.proofs.Common.{◌≡◌, map, take}
use Rattle.ltl_word.proofs.name_list.all.Given as goal

abbrev pub invariant-loop-number : goal.invariant-loop-number
invariant-loop-number g l = map (λ n. n.now) l.names.items ≡ take l.number l.formula.names
