-- Direct simulation of one automaton by another one. Edges that every accepting run takes finitely often need no marks.
use Rattle.std.specs.Prelude.{◌≡◌, ℕ, ◌<◌, ◌≤◌, ◌⊎◌}
use Rattle.ltl_spec.specs.Collections.Sets.{Has}
use Rattle.ltl_spec.specs.Transitions.Cubes.{Literal}
use Rattle.ltl_spec.specs.Automata.Automaton.{Automaton, Edge, state_at}

-- No edge leads to a higher level. The edges within a level are in no set with the number `lacking`, if there is a set of this number
pub record AreLevels (A : Automaton) (level lacking : ℕ → ℕ) : Type 0 where
  pub falls : (s : ℕ) (e : Edge) → Has (state_at A s).edges e → level e.target ≤ level s
  pub lacks : (s : ℕ) (e : Edge) → Has (state_at A s).edges e → level e.target ≡ level s → lacking (level s) < A.sets → ¬ (Has e.marks (lacking (level s)))

-- the edge leads to a lower level, or its level lacks a set: an accepting run takes it finitely often
abbrev pub IsFree : Automaton → (ℕ → ℕ) → (ℕ → ℕ) → ℕ → Edge → Type 0
IsFree A level lacking s e = (level e.target < level s) ⊎ (lacking (level s) < A.sets)

-- the edges of dead states are free, and lead to dead states
pub record AreDead (A : Automaton) (level lacking : ℕ → ℕ) (IsDead : ℕ → Type 0) : Type 0 where
  pub stays : (s : ℕ) (e : Edge) → IsDead s → Has (state_at A s).edges e → IsDead e.target
  pub free : (s : ℕ) (e : Edge) → IsDead s → Has (state_at A s).edges e → IsFree A level lacking s e

-- The edge f does for e: its literals are among those of e, its target is related to that of e, and unless e is free, it has the marks of e
pub record IsMatchedBy (Related : ℕ → ℕ → Type 0) (Free : Type 0) (e f : Edge) : Type 0 where
  pub cube : (l : Literal) → Has f.cube l → Has e.cube l
  pub target : Related e.target f.target
  pub marks : Free ⊎ ((k : ℕ) → Has e.marks k → Has f.marks k)

-- an edge of the state t of B does for the edge e of the state s of A
abbrev pub Match : Automaton → (ℕ → ℕ) → (ℕ → ℕ) → Automaton → (ℕ → ℕ → Type 0) → ℕ → ℕ → Edge → Type 0
Match A level lacking B Related s t e = (f : Edge) × Has (state_at B t).edges f × IsMatchedBy Related (IsFree A level lacking s e) e f

-- the edges of related states match each other, but for those to dead states
abbrev pub IsSimulation : Automaton → (ℕ → ℕ) → (ℕ → ℕ) → (ℕ → Type 0) → Automaton → (ℕ → ℕ → Type 0) → Type 0
IsSimulation A level lacking IsDead B Related = (s t : ℕ) → Related s t → (e : Edge) → Has (state_at A s).edges e → IsDead e.target ⊎ Match A level lacking B Related s t e
