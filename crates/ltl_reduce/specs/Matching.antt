-- What the check finds of the edges of two states.
use Rattle.std.specs.Prelude.{◌≡◌, ℕ, ◌<◌, ◌≤◌, Bool, ◌⊎◌, IsTrue, List, length, slice_index_or}
use Rattle.ltl_spec.specs.Collections.Sets.{Has}
use Rattle.ltl_spec.specs.Automata.Automaton.{Automaton, Edge, state_at}
use Rattle.ltl_reduce.specs.Simulation.{IsMatchedBy}
use Rattle.ltl_reduce.specs.FreesView.{is_dead, is_free, lacking_of, level_of}
use Rattle.ltl_reduce.specs.RelationView.{relates}
use Rattle.ltl_reduce.specs.declared.matching.Matching as made
use Rattle.ltl_reduce.specs.declared.frees.Frees as frees_of
use Rattle.ltl_reduce.specs.declared.relation.Relation as between

-- f does for e
abbrev pub IsMatch : between.Relation → Bool → Edge → Edge → Type 0
IsMatch r free e f = IsMatchedBy (λ s t. IsTrue (relates r s t)) (IsTrue free) e f

-- one of the edges does for e
abbrev pub HasMatch : between.Relation → Bool → Edge → List Edge → Type 0
HasMatch r free e fs = (f : Edge) × Has fs f × IsMatch r free e f

-- so it is for an edge of the state s, unless it leads to a dead state
abbrev pub IsMatched : made.Matching → ℕ → Edge → List Edge → Type 0
IsMatched m s e fs = IsTrue (is_dead m.frees e.target) ⊎ HasMatch m.relation (is_free m.frees m.sets s e.target) e fs

abbrev pub AreMatched : made.Matching → ℕ → List Edge → List Edge → Type 0
AreMatched m s es fs = (e : Edge) → Has es e → IsMatched m s e fs

-- so it is for all related states
abbrev pub Simulates : Automaton → Automaton → made.Matching → Type 0
Simulates A B m = (s t : ℕ) → IsTrue (relates m.relation s t) → AreMatched m s (state_at A s).edges (state_at B t).edges

-- an edge of the state s leads to no higher level, and isn't in the set that its level lacks
pub record IsLevelRight (sets : ℕ) (f : frees_of.Frees) (s : ℕ) (e : Edge) : Type 0 where
  pub falls : level_of f e.target ≤ level_of f s
  pub lacks : level_of f e.target ≡ level_of f s → lacking_of f (level_of f s) < sets → ¬ (Has e.marks (lacking_of f (level_of f s)))

-- if the state is dead, the edge is free and leads to a dead state
pub record IsDeathRight (sets : ℕ) (f : frees_of.Frees) (s : ℕ) (e : Edge) : Type 0 where
  pub stays : IsTrue (is_dead f s) → IsTrue (is_dead f e.target)
  pub free : IsTrue (is_dead f s) → IsTrue (is_free f sets s e.target)

abbrev pub IsRight : ℕ → frees_of.Frees → ℕ → Edge → Type 0
IsRight sets f s e = IsLevelRight sets f s e × IsDeathRight sets f s e

abbrev pub AreEdgesRight : Automaton → frees_of.Frees → ℕ → Type 0
AreEdgesRight A f s = (e : Edge) → Has (state_at A s).edges e → IsRight A.sets f s e

module _ (A B : Automaton) (m n : made.Matching) where
  -- a state of A and one of B match each other, if B has it
  pub record IsAlike (s t : ℕ) : Type 0 where
    pub to : t < length B.states → AreMatched m s (state_at A s).edges (state_at B t).edges
    pub from : t < length B.states → AreMatched n t (state_at B t).edges (state_at A s).edges

  -- so do the first k states and those with their numbers
  abbrev pub AreAlikeTo : List ℕ → ℕ → Type 0
  AreAlikeTo numbers k = (s : ℕ) → s < k → IsAlike s (slice_index_or numbers s 0)

  -- a state of A and one of B match each other where they are related
  pub record IsFollowed (s t : ℕ) : Type 0 where
    pub to : IsTrue (relates m.relation s t) → AreMatched m s (state_at A s).edges (state_at B t).edges
    pub from : IsTrue (relates n.relation t s) → AreMatched n t (state_at B t).edges (state_at A s).edges

  abbrev pub AreFollowedTo : ℕ → ℕ → Type 0
  AreFollowedTo s k = (t : ℕ) → t < k → IsFollowed s t

  abbrev pub AreFollowed : ℕ → Type 0
  AreFollowed k = (s : ℕ) → s < k → AreFollowedTo s (length B.states)
