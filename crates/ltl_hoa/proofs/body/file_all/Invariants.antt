use Rattle.std.proofs.Common.{◌≡◌, ◌++◌, map, take}
use Rattle.ltl_hoa.specs.MarkedView.{edge_of}
use Rattle.ltl_hoa.proofs.body.file_all.Given as goal

abbrev pub invariant-cubes : goal.invariant-cubes
invariant-cubes g l =
    map edge_of l.edges.items ≡ map edge_of l.initial.edges.items ++ map (λ c. record { cube = c; target = l.target; marks = l.sets }) (take l.cube-index l.cubes)
