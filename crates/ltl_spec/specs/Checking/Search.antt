-- What is searched: closed walks of a graph that have an edge of every set, and the words along them.
use Rattle.std.specs.Prelude.{◌≡◌, ◌≢◌, ℕ, ◌<◌, List, [], ◌∷◌, map, filter, slice_index_or}
use Rattle.ltl_spec.specs.Collections.Sets.{Has, set_of}
use Rattle.ltl_spec.specs.Transitions.Cubes.{Cube}
use Rattle.ltl_spec.specs.Semantics.Word.{Name, name_cmp, Letter, Lasso}
use Rattle.ltl_spec.specs.Automata.Automaton.{Automaton, Edge, state_at}
use Rattle.ltl_spec.specs.Construction.Levels.{next_level, LevelState}

module _ (P : Automaton) where
  -- the edges lead from one state to the other, whatever the word
  abbrev pub IsPath : ℕ → List Edge → ℕ → Type 0
  IsPath s [] t = s ≡ t
  IsPath s (e ∷ es) t = Has (state_at P s).edges e × IsPath e.target es t

  -- a closed path that isn't empty and has an edge of every set
  pub record IsFullCycle (s : ℕ) (cycle : List Edge) : Type 0 where
    pub closes : IsPath s cycle s
    pub moves : cycle ≢ []
    pub marks : (k : ℕ) → k < P.sets → (e : Edge) × Has cycle e × Has e.marks k

  -- a path from the start leads to such a cycle
  pub record HasAcceptingWalk (start : ℕ) : Type 0 where
    pub state : ℕ
    pub stem : List Edge
    pub cycle : List Edge
    pub arrives : IsPath start stem state
    pub cycles : IsFullCycle state cycle

  -- the copy to which an edge leads
  abbrev pub copy_after : LevelState → Edge → LevelState
  copy_after p e = record { state = e.target; level = next_level P.sets e.marks p.level }

  -- the edges lead from one copy to the other
  abbrev pub IsLevelPath : LevelState → List Edge → LevelState → Type 0
  IsLevelPath p [] q = p ≡ q
  IsLevelPath p (e ∷ es) q = Has (state_at P p.state).edges e × IsLevelPath (copy_after p e) es q

-- the letter in which the names of the positive literals are true, and nothing else
abbrev pub letter_of : List Name → Cube → Letter
letter_of names c = set_of name_cmp (map (λ l. slice_index_or names l.proposition []) (filter (λ l. l.positive) c))

-- the letters along a stem and a cycle
abbrev pub lasso_along : List Name → List Edge → List Edge → Lasso
lasso_along names stem cycle = record { stem = map (λ e. letter_of names e.cube) stem; cycle = map (λ e. letter_of names e.cube) cycle }
