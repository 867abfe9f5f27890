use Rattle.std.proofs.Common.{◌≡◌, take, not}
use Rattle.std.specs.List.{filter}
use Rattle.ltl_alt.specs.StandIns.{is_replaced}
use Rattle.ltl_alt.proofs.prune.left.Given as goal

abbrev pub invariant-pairs : goal.invariant-pairs
invariant-pairs g l = record {
  same : l.spares ≡ l.initial.spares;
  kept : l.rest.items ≡ filter (λ p. not (is_replaced l.initial.spares p)) (take l.pair-index l.fn.pairs);
}
