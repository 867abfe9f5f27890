use Rattle.std.proofs.Common.{◌+◌, ◌≡◌, ℕ}
use Rattle.ltl_check.specs.Explored.{IsSearching, IsGrown, to_enter, rest_of, spent, work}
use Rattle.ltl_check.proofs.search.search_net.Given as goal

abbrev pub invariant-entering : goal.invariant-entering
invariant-entering g l = record {
  searching : IsSearching (g.N.Numbered.net l.net) l.search;
  looked : (c : ℕ) × IsGrown (g.N.Numbered.looked_of l.fn.looks) (g.N.Numbered.looked_of l.looks) c
      × (c + rest_of (g.N.Numbered.net l.net) l.search.dfs_path ≡ spent (g.N.Numbered.net l.net) l.search.colours.items);
}

abbrev pub decreases-entering : goal.decreases-entering
decreases-entering g l =
    work (g.N.Numbered.net l.net) (to_enter (g.N.Numbered.net l.net)) l.search.colours.items l.search.dfs_path.stem.items l.search.dfs_path.here l.search.dfs_path.next
