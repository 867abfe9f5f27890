-- The cubes of the parts of a label, as far as they aren't too many.
use Rattle.std.specs.Prelude.{◌≡◌, ◌<◌, ℕ, Bool, true, false, nat_lt, if◌then◌else◌, List, [], ◌∷◌, ◌++◌, length, flat_map, filter_map, Option, Some, None}
use Rattle.ltl_spec.specs.Collections.Sets.{set_of}
use Rattle.ltl_spec.specs.Transitions.Cubes.{Cube, cube_cmp, join_cubes}
use Rattle.ltl_spec.specs.Tools.Limits.{stated_limits}

abbrev pub few : List Cube → Option (List Cube)
few cs = if nat_lt stated_limits.label_cubes (length cs) then None else Some cs

abbrev pub constant_cubes : Bool → Option (List Cube)
constant_cubes value = Some (if value then [] ∷ [] else [])

abbrev pub literal_cubes : ℕ → Bool → Option (List Cube)
literal_cubes p sign = Some ((record { proposition = p; positive = sign } ∷ []) ∷ [])

-- one cube of each side joined, in every way
abbrev pub joined_cubes : List Cube → List Cube → List Cube
joined_cubes xs ys = set_of cube_cmp (flat_map (λ c. filter_map (join_cubes c) ys) xs)

-- one cube of each list joined, in every way, as often as they come
abbrev pub joins : List Cube → List Cube → List Cube
joins xs ys = flat_map (λ c. filter_map (join_cubes c) ys) xs

-- the same set of cubes
abbrev pub SameCubes : List Cube → List Cube → Type 0
SameCubes cs ds = set_of cube_cmp cs ≡ set_of cube_cmp ds

-- whether the cubes, as a set, aren't too many; if so, they are held
abbrev pub HasFew : List Cube → Bool → List Cube → Type 0
HasFew cs true held = set_of cube_cmp held ≡ set_of cube_cmp cs
HasFew cs false held = stated_limits.label_cubes < length (set_of cube_cmp cs)

-- of a conjunction, or of a disjunction
abbrev pub both_cubes : Bool → Option (List Cube) → Option (List Cube) → Option (List Cube)
both_cubes meet (Some xs) (Some ys) = if meet then few (joined_cubes xs ys) else few (set_of cube_cmp (xs ++ ys))
both_cubes meet (Some xs) None = None
both_cubes meet None _ = None
