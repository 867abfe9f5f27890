use Rattle.std.proofs.Common.{◌≡◌, take, map}
use Rattle.std.specs.Prelude.{fold}
use Rattle.ltl_spec.specs.Collections.Lists.{with_new}
use Rattle.ltl_automaton.specs.Net.{key_of, places_in}
use Rattle.ltl_automaton.proofs.explore.numbered.Given as goal

abbrev pub invariant-loop-step : goal.invariant-loop-step
invariant-loop-step g l = record {
  keys : l.listing.keys ≡ fold (with_new g.K.PartialEq.eq) l.fn.listing.keys (map key_of (take l.step-index (map g.T.Step.move_of l.steps)));
  explored : l.listing.explored ≡ l.fn.listing.explored;
  places : l.targets.items ≡ places_in g.K.PartialEq.eq l.listing.keys (take l.step-index (map g.T.Step.move_of l.steps));
}
