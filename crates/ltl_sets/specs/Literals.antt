-- The literals of the code as literals of the definitions.
use Rattle.std.specs.Prelude.{ℕ, List, map}
use Rattle.std.specs.Ordering.{nat_cmp}
use Rattle.ltl_sets.specs.declared.literal.Literal as made
use Rattle.ltl_spec.specs.Collections.Sets.{has}
use Rattle.ltl_spec.specs.Transitions.Cubes.{Literal, Cube}

abbrev pub literal_of : made.Literal → Literal
literal_of l = record { proposition = l.proposition; positive = l.positive }

abbrev pub cube_of : List made.Literal → Cube
cube_of ls = map literal_of ls

-- the literal of a proposition that is positive just where it is a member
abbrev pub signed_by : List ℕ → ℕ → made.Literal
signed_by is p = record { proposition = p; positive = has nat_cmp p is }
