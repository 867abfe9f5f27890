-- Automata whose numbers are below their counts.
use Rattle.std.specs.Prelude.{◌≡◌, ℕ, ◌<◌, false, IsTrue, List, length}
use Rattle.ltl_spec.specs.Collections.Sets.{Has}
use Rattle.ltl_spec.specs.Collections.Lists.{HasNoRepeats}
use Rattle.ltl_spec.specs.Formulas.Formula.{Formula, Constant, Proposition, Unary, Binary}
use Rattle.ltl_spec.specs.Transitions.Cubes.{Literal, is_contradictory}
use Rattle.ltl_spec.specs.NormalForms.Normal.{Normal, Top, Bottom, Leaf, Next, And, Or, Until, Release}
use Rattle.ltl_spec.specs.Automata.Automaton.{Automaton, Edge, state_at}
use Rattle.ltl_spec.specs.Hoa.HoaReading.{MarkedAutomaton}

-- the propositions of the formula are below n
abbrev pub HasPropositionsBelow : ℕ → Formula → Type 0
HasPropositionsBelow n (Constant b) = Unit {0}
HasPropositionsBelow n (Proposition p) = p < n
HasPropositionsBelow n (Unary op a) = HasPropositionsBelow n a
HasPropositionsBelow n (Binary op a b) = HasPropositionsBelow n a × HasPropositionsBelow n b

-- the propositions of the normal form are below n
abbrev pub HasLeavesBelow : ℕ → Normal → Type 0
HasLeavesBelow n Top = Unit {0}
HasLeavesBelow n Bottom = Unit {0}
HasLeavesBelow n (Leaf l) = l.proposition < n
HasLeavesBelow n (Next a) = HasLeavesBelow n a
HasLeavesBelow n (And a b) = HasLeavesBelow n a × HasLeavesBelow n b
HasLeavesBelow n (Or a b) = HasLeavesBelow n a × HasLeavesBelow n b
HasLeavesBelow n (Until a b) = HasLeavesBelow n a × HasLeavesBelow n b
HasLeavesBelow n (Release a b) = HasLeavesBelow n a × HasLeavesBelow n b

-- the propositions of the cubes are below n
abbrev pub HasNamesBelow : ℕ → Automaton → Type 0
HasNamesBelow n A = (s : ℕ) (e : Edge) → Has (state_at A s).edges e → (l : Literal) → Has e.cube l → l.proposition < n

-- no cube contradicts itself
abbrev pub HasNoContradictions : Automaton → Type 0
HasNoContradictions A = (s : ℕ) (e : Edge) → Has (state_at A s).edges e → is_contradictory e.cube ≡ false

-- the marks are sets of the automaton
abbrev pub HasMarksInside : Automaton → Type 0
HasMarksInside A = (s : ℕ) (e : Edge) → Has (state_at A s).edges e → (k : ℕ) → Has e.marks k → k < A.sets

-- the targets are states
abbrev pub HasTargetsInside : Automaton → Type 0
HasTargetsInside A = (s : ℕ) (e : Edge) → Has (state_at A s).edges e → e.target < length A.states

-- the states are accepting
abbrev pub AcceptsEverywhere : Automaton → Type 0
AcceptsEverywhere A = (s : ℕ) → IsTrue (state_at A s).accepting

-- an automaton with sets on its edges, whose propositions are below n
pub record IsGraph (n : ℕ) (A : Automaton) : Type 0 where
  pub accepting : AcceptsEverywhere A
  pub marks : HasMarksInside A
  pub propositions : HasNamesBelow n A

-- a Büchi automaton, whose propositions are below n
pub record IsBuchi (n : ℕ) (B : Automaton) : Type 0 where
  pub sets : B.sets ≡ 0
  pub begins : 0 < length B.states
  pub inside : HasTargetsInside B
  pub propositions : HasNamesBelow n B

-- the names of an automaton that was read differ, and its marks and propositions are below their counts
pub record IsProper (A : MarkedAutomaton) : Type 0 where
  pub differ : HasNoRepeats A.names
  pub marks : (es : List Edge) (e : Edge) → Has A.edges es → Has es e → (k : ℕ) → Has e.marks k → k < A.sets
  pub propositions : (es : List Edge) (e : Edge) → Has A.edges es → Has es e → (l : Literal) → Has e.cube l → l.proposition < length A.names
