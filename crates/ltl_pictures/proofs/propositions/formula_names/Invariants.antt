use Rattle.std.proofs.Common.{◌≡◌, map, take}
use Rattle.ltl_pictures.proofs.propositions.formula_names.Given as goal

abbrev pub invariant-loop-p : goal.invariant-loop-p
invariant-loop-p g l = map (λ n. n.now) l.names.items ≡ take l.p l.formula.names
