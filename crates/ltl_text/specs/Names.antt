-- Automata and cubes whose propositions have names.
use Rattle.std.specs.Prelude.{ℕ, ◌<◌, List, length, slice_index_or}
use Rattle.ltl_spec.specs.Collections.Sets.{Has}
use Rattle.ltl_spec.specs.Transitions.Cubes.{Literal, Cube}
use Rattle.ltl_spec.specs.Automata.Automaton.{Edge}

-- the propositions of the literals are below n
abbrev pub HasNames : ℕ → Cube → Type 0
HasNames n c = (l : Literal) → Has c l → l.proposition < n

-- so are those of the edges
pub record AllHaveNames (n : ℕ) (es : List Edge) : Type 0 where
  pub named : (k : ℕ) (d : Edge) → k < length es → HasNames n (slice_index_or es k d).cube
