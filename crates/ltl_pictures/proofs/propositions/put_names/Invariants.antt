use Rattle.std.proofs.Common.{◌≡◌, drop, map}
use Rattle.std.specs.Prelude.{fold}
use Rattle.ltl_spec.specs.Collections.Lists.{with_new}
use Rattle.ltl_spec.specs.Formulas.Tokens.{same_name}
use Rattle.ltl_pictures.proofs.propositions.put_names.Given as goal

abbrev pub invariant-loop-i : goal.invariant-loop-i
invariant-loop-i g l =
    fold (with_new same_name) (map (λ n. n.now) l.names.items) (drop l.i (map (λ n. n.now) l.more)) ≡ fold (with_new same_name) (map (λ n. n.now) l.fn.names.items) (map (λ n. n.now) l.more)
