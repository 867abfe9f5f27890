use Rattle.std.proofs.Common.{◌≡◌, take, not}
use Rattle.std.specs.List.{filter}
use Rattle.ltl_alt.specs.TransitionView.{is_heavy}
use Rattle.ltl_alt.proofs.implied.lighter.Given as goal

abbrev pub invariant-transitions : goal.invariant-transitions
invariant-transitions g l = l.lighter.items ≡ filter (λ t. not (is_heavy l.most t)) (take l.transition-index l.fn.transitions)
