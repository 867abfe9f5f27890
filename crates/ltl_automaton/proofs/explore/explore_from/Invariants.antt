use Rattle.std.proofs.Common.{◌≡◌, ◌≤◌, ◌-◌, length}
use Rattle.ltl_automaton.specs.Net.{IsUnderWay, lengths_of}
use Rattle.ltl_automaton.proofs.explore.explore_from.Given as goal

abbrev pub invariant-things : goal.invariant-things
invariant-things g l = record {
  way : IsUnderWay g.K.PartialEq.eq g.M.Builder.sorts (g.S.Successors.net l.fn.net) l.fn.start (g.M.Builder.built l.fn.builder).sets l.progress.listing l.progress.edges (g.M.Builder.built l.made);
  lengths : l.progress.lengths.items ≡ lengths_of (g.S.Successors.net l.fn.net) l.progress.listing;
  net : g.S.Successors.net l.net ≡ g.S.Successors.net l.fn.net;
  ready : g.S.Successors.ready l.net;
  built : g.M.Builder.ready l.made;
  few_states : length l.progress.listing.keys ≤ l.limits.states;
  few_edges : l.progress.edges ≤ l.limits.edges;
}

abbrev pub decreases-things : goal.decreases-things
decreases-things g l = l.limits.states - l.progress.listing.explored
