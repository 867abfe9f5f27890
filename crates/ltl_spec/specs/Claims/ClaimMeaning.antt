-- What a never claim means: the automaton of its program, and the words that it accepts.
use Rattle.std.specs.Prelude.{◌≡◌, ℕ, zero, suc, ◌<◌, ◌↔◌, Bool, true, false, not, ◌&&◌, nat_eq, if◌then◌else◌, List, [], ◌∷◌, ◌++◌, length, map, fold, find, flat_map, Option, Some, None, option_map, unwrap_or, codes}
use Rattle.std.specs.Bool.{beq}
use Rattle.std.specs.List.{list_any, range_with_len, starts_with}
use Rattle.ltl_spec.specs.Collections.Lists.{first_occurrences, place_of}
use Rattle.ltl_spec.specs.Semantics.Word.{Name, Lasso}
use Rattle.ltl_spec.specs.Formulas.Tokens.{same_name}
use Rattle.ltl_spec.specs.Transitions.Cubes.{Cube}
use Rattle.ltl_spec.specs.Automata.Automaton.{Automaton, State, Edge, AcceptsFrom}
use Rattle.ltl_spec.specs.Semantics.Satisfaction.{Satisfies}
use Rattle.ltl_spec.specs.Formulas.Formula.{Reading}
use Rattle.ltl_spec.specs.Claims.ClaimProgram.{Guard, Constant, Named, Not, And, Or, Link, Go, Jump, Leave, Nothing, First, Test, Check, Both, Otherwise, Leaps, ClaimOption, Program}
use Rattle.ltl_spec.specs.Claims.ClaimMachine.{statement_at, claim_program}

-- both cubes of each pair, or the cubes of both lists
abbrev pub cubes_of_two : Bool → List Cube → List Cube → List Cube
cubes_of_two true cs ds = flat_map (λ c. map (λ d. c ++ d) ds) cs
cubes_of_two false cs ds = cs ++ ds

-- cubes such that the guard has this value exactly where one of them is allowed
abbrev pub guard_cubes : List Name → Bool → Guard → List Cube
guard_cubes names b (Constant c) = if beq b c then [] ∷ [] else []
guard_cubes names b (Named n) = (record { proposition = place_of same_name n names; positive = b } ∷ []) ∷ []
guard_cubes names b (Not g) = guard_cubes names (not b) g
guard_cubes names b (And g h) = cubes_of_two b (guard_cubes names b g) (guard_cubes names b h)
guard_cubes names b (Or g h) = cubes_of_two (not b) (guard_cubes names b g) (guard_cubes names b h)

module _ (P : Program) where
  -- the number of the closing brace, which stands behind the last statement
  abbrev pub end : ℕ
  end = length P.statements

  -- the names of its propositions, each where it first stands
  abbrev pub program_names : List Name
  program_names = first_occurrences same_name P.names

  -- the statement of a label
  abbrev pub labelled : Name → ℕ
  labelled l = unwrap_or (option_map (λ x. x.statement) (find (λ x. same_name l x.name) P.labels)) end

  -- the statement, or the nearest one around it, that is a `do`. There are fewer around it than statements
  abbrev pub nearest : ℕ → ℕ → ℕ
  nearest zero i = i
  nearest (suc n) i = let s = statement_at P i in if s.loops then i else unwrap_or (option_map (nearest n) s.around) i

  -- Where a link in an option of this selection leads. The end of an option leads to a `do` itself, or else behind the selection, and `break` behind the nearest `do`
  abbrev pub follow : ℕ → Link → Option ℕ → ℕ
  follow n (Go i) c = i
  follow n (Jump l) c = labelled l
  follow n k None = end
  follow zero k (Some i) = end
  follow (suc n) Nothing (Some i) = let s = statement_at P i in if s.loops then i else follow n s.next s.around
  follow (suc n) Leave (Some i) = let s = statement_at P (nearest n i) in follow n s.next s.around

  abbrev pub leads : Link → Option ℕ → ℕ
  leads = follow (suc end)

  -- when an option can be taken
  abbrev pub enabled : First → List Guard
  enabled (Test g) = g ∷ []
  enabled (Both g h) = g ∷ []
  enabled Otherwise = []
  enabled first = Constant true ∷ []

  abbrev pub one_of : List Guard → Guard
  one_of [] = Constant false
  one_of (g ∷ gs) = fold Or g gs

  -- the steps of an option of statement i, each under a guard. An assertion that fails ends the claim
  abbrev pub moves : ℕ → First → ℕ → List (Guard × ℕ)
  moves i (Test g) t = (g, t) ∷ []
  moves i (Check g) t = (g, t) ∷ (Not g, end) ∷ []
  moves i (Both g h) t = (And g h, t) ∷ (And g (Not h), end) ∷ []
  moves i Otherwise t = (Not (one_of (flat_map (λ o. enabled o.first) (statement_at P i).options)), t) ∷ []
  moves i (Leaps k) t = (Constant true, leads k (Some i)) ∷ []

  abbrev pub move_edges : Guard × ℕ → List Edge
  move_edges m = map (λ c. record { cube = c; target = m.1; marks = [] }) (guard_cubes program_names true m.0)

  abbrev pub option_edges : ℕ → ClaimOption → List Edge
  option_edges i o = flat_map move_edges (moves i o.first (leads o.next (Some i)))

  -- a statement accepts if one of its labels begins with `accept`
  abbrev pub accepts : ℕ → Bool
  accepts i = list_any (λ l. nat_eq l.statement i && starts_with nat_eq l.name (codes "accept")) P.labels

  abbrev pub statement_state : ℕ → State
  statement_state i = record { accepting = accepts i; edges = flat_map (option_edges i) (statement_at P i).options }

  -- at the closing brace each word is accepted
  abbrev pub end_state : State
  end_state = record { accepting = true; edges = record { cube = []; target = end; marks = [] } ∷ [] }

  -- a state for each statement, and one for the closing brace
  abbrev pub claim_automaton : Automaton
  claim_automaton = record { sets = 0; states = map statement_state (range_with_len 0 end) ++ end_state ∷ [] }

  -- the claim accepts the word
  abbrev pub ClaimAccepts : Lasso → Type 0
  ClaimAccepts w = AcceptsFrom (leads P.start None) program_names claim_automaton w

-- the text is a claim that accepts exactly the ultimately periodic words that satisfy the formula
abbrev pub IsClaimOfModels : Reading → List ℕ → Type 0
IsClaimOfModels R text = (P : Program) × (claim_program text ≡ Some P) × ((w : Lasso) → 0 < length w.cycle → ClaimAccepts P w ↔ Satisfies R.names w 0 R.formula)
