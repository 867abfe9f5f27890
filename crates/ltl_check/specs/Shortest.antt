-- Shortest lassos of a graph.
use Rattle.std.specs.Prelude.{ℕ, ◌+◌, ◌≤◌, List, length}
use Rattle.ltl_check.specs.declared.walk.Taken.{Taken}
use Rattle.ltl_check.specs.Nets.{Net}
use Rattle.ltl_check.specs.Levels.{IsFullWalk}

-- a stem and a closed walk with an edge of every set, and no other ones have fewer edges together
abbrev pub IsShortestLasso : Net → ℕ → List Taken → List Taken → Type 0
IsShortestLasso N sets stem cycle =
    IsFullWalk N sets stem cycle × ((us vs : List Taken) → IsFullWalk N sets us vs → length stem + length cycle ≤ length us + length vs)
