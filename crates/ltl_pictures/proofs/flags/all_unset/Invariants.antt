use Rattle.std.proofs.Common.{[]}
use Rattle.ltl_pictures.proofs.FlagLaws.{UnsetAt}
use Rattle.ltl_pictures.proofs.OrderLaws.{Rows}
use Rattle.ltl_pictures.proofs.flags.all_unset.Given as goal

abbrev pub invariant-loop-k : goal.invariant-loop-k
invariant-loop-k g l = Rows (UnsetAt l.automaton) [] l.k l.flags.items
