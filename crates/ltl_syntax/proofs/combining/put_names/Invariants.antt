use Rattle.std.proofs.Common.{◌≡◌, drop, map}
use Rattle.std.specs.Prelude.{fold}
use Rattle.ltl_spec.specs.Collections.Lists.{with_new}
use Rattle.ltl_spec.specs.Formulas.Tokens.{same_name}
use Rattle.ltl_syntax.proofs.combining.put_names.Given as goal

abbrev pub invariant-loop-i : goal.invariant-loop-i
invariant-loop-i g l = fold (with_new same_name) (map (λ k. k.now) l.names.keys) (drop l.i l.formula.names) ≡ fold (with_new same_name) (map (λ k. k.now) l.fn.names.keys) l.formula.names
