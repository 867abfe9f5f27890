-- Literals, and sets of them without contradiction.
use Rattle.std.specs.Prelude.{ℕ, Bool, not, if◌then◌else◌, List, Option, Some, None}
use Rattle.std.specs.List.{list_any, list_all}
use Rattle.std.specs.Bool.{beq}
use Rattle.std.specs.declared.cmp.Ordering.{Ordering}
use Rattle.std.specs.Ordering.{nat_cmp, bool_cmp, on, flip_args, then_cmp}
use Rattle.std.specs.Cmp.Lexicographic.{slice_cmp}
use Rattle.ltl_spec.specs.Collections.Sets.{union, has}

-- a proposition, or its negation
pub record Literal : Type 0 where
  pub proposition : ℕ
  pub positive : Bool

-- by the proposition, the positive one first
abbrev pub literal_cmp : Literal → Literal → Ordering
literal_cmp = then_cmp (on (λ l. l.proposition) nat_cmp) (on (λ l. l.positive) (flip_args bool_cmp))

-- the same proposition with the other sign
abbrev pub opposite : Literal → Literal
opposite l = record l { positive = not l.positive }

-- a set of literals
abbrev pub Cube : Type 0
Cube = List Literal

-- as sorted lists
abbrev pub cube_cmp : Cube → Cube → Ordering
cube_cmp = slice_cmp literal_cmp

-- whether some proposition has both signs
abbrev pub is_contradictory : Cube → Bool
is_contradictory c = list_any (λ l. has literal_cmp (opposite l) c) c

-- the literals of both, unless they contradict each other
abbrev pub join_cubes : Cube → Cube → Option Cube
join_cubes a b = let c = union literal_cmp a b in if is_contradictory c then None else Some c

-- whether each literal is as the propositions are
abbrev pub allows : (ℕ → Bool) → Cube → Bool
allows truth c = list_all (λ l. beq (truth l.proposition) l.positive) c
