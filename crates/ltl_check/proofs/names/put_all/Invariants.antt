use Rattle.std.proofs.Common.{◌≡◌, drop, map}
use Rattle.std.specs.Prelude.{fold}
use Rattle.ltl_spec.specs.Collections.Lists.{with_new}
use Rattle.ltl_spec.specs.Formulas.Tokens.{same_name}
use Rattle.ltl_check.proofs.names.put_all.Given as goal

abbrev pub invariant-loop-i : goal.invariant-loop-i
invariant-loop-i g l =
    fold (with_new same_name) (map (λ n. n.now) l.names.items) (drop l.i (g.F.Operand.automaton_of l.automaton).names)
    ≡ fold (with_new same_name) (map (λ n. n.now) l.fn.names.items) (g.F.Operand.automaton_of l.automaton).names
