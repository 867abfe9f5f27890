use Rattle.std.proofs.Common.{◌≡◌, ◌≤◌, ◌+◌, ◌-◌, length}
use Rattle.ltl_automaton.specs.Net.{edges_behind}
use Rattle.ltl_automaton.proofs.ahead.are_more_behind.Given as goal

abbrev pub invariant-things : goal.invariant-things
invariant-things g l = record {
  net : g.S.Successors.net l.net ≡ g.S.Successors.net l.fn.net;
  ready : g.S.Successors.ready l.net;
  few : l.sum ≤ l.most;
  behind : l.sum + edges_behind (g.S.Successors.net l.fn.net) l.fn.listing.keys l.place ≤ l.fn.count + edges_behind (g.S.Successors.net l.fn.net) l.fn.listing.keys l.fn.listing.explored;
}

abbrev pub decreases-things : goal.decreases-things
decreases-things g l = length l.listing.keys - l.place
