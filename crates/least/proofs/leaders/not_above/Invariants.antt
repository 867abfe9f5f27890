use Rattle.std.proofs.Common.{◌≡◌, take, not}
use Rattle.std.specs.List.{filter}
use Rattle.least.specs.Lookups.{is_above}
use Rattle.least.proofs.leaders.not_above.Given as goal

abbrev pub invariant-items : goal.invariant-items
invariant-items g l = record {
  same : l.lookup ≡ l.candidates;
  kept : l.kept.items ≡ filter (λ t. not (is_above g.T.Below.below (g.C.Counting.counts l.counting) l.candidates t)) (take l.item-index l.fn.items);
}
