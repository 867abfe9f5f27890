-- The levels of an automaton as lists of the code.
use Rattle.std.specs.Prelude.{◌≡◌, ℕ, Bool, false, nat_lt, ◌||◌, IsTrue, [], slice_index_or}
use Rattle.ltl_spec.specs.Automata.Automaton.{Automaton}
use Rattle.ltl_reduce.specs.Simulation.{AreLevels, AreDead}
use Rattle.ltl_reduce.specs.declared.frees.Frees as made

-- no list has anything
pub record AreNone (f : made.Frees) : Type 0 where
  pub levels : f.levels.now ≡ []
  pub lacking : f.lacking.now ≡ []
  pub dead : f.dead.now ≡ []

abbrev pub level_of : made.Frees → ℕ → ℕ
level_of f s = slice_index_or f.levels.now s 0

abbrev pub lacking_of : made.Frees → ℕ → ℕ
lacking_of f level = slice_index_or f.lacking.now level 256

abbrev pub is_dead : made.Frees → ℕ → Bool
is_dead f s = slice_index_or f.dead.now s false

-- an edge between two states of an automaton with so many sets is free
abbrev pub is_free : made.Frees → ℕ → ℕ → ℕ → Bool
is_free f sets s target = nat_lt (level_of f target) (level_of f s) || nat_lt (lacking_of f (level_of f s)) sets

-- the lists are right about the automaton
pub record AreRight (A : Automaton) (f : made.Frees) : Type 0 where
  pub levels : AreLevels A (level_of f) (lacking_of f)
  pub dead : AreDead A (level_of f) (lacking_of f) (λ s. IsTrue (is_dead f s))
