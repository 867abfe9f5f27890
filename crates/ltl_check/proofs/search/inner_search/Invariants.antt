use Rattle.std.proofs.Common.{◌+◌, ◌≡◌, ℕ}
use Rattle.ltl_check.specs.Explored.{IsProbing, IsGrown, total, to_enter, to_mark, rest_of, spent, work}
use Rattle.ltl_check.proofs.search.inner_search.Given as goal

abbrev pub invariant-marking : goal.invariant-marking
invariant-marking g l = record {
  probing : IsProbing (g.N.Numbered.net l.net) l.colours.items l.first l.path;
  enters : total (to_enter (g.N.Numbered.net l.net)) 0 l.colours.items ≡ total (to_enter (g.N.Numbered.net l.net)) 0 l.fn.colours.items;
  looked : (c : ℕ) × IsGrown (g.N.Numbered.looked_of l.fn.looks) (g.N.Numbered.looked_of l.looks) c
      × (c + rest_of (g.N.Numbered.net l.net) l.path + spent (g.N.Numbered.net l.net) l.fn.colours.items
      ≡ spent (g.N.Numbered.net l.net) l.colours.items + (g.N.Numbered.net l.net).pairs l.first.here);
}

abbrev pub decreases-marking : goal.decreases-marking
decreases-marking g l = work (g.N.Numbered.net l.net) (to_mark (g.N.Numbered.net l.net)) l.colours.items l.path.stem.items l.path.here l.path.next
