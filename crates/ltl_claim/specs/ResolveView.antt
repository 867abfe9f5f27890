-- Where the statements lead, by tables, and the moves as they are made.
use Rattle.std.specs.Prelude.{◌≡◌, ℕ, suc, ◌+◌, ◌-◌, ◌<◌, ◌≤◌, Bool, true, false, ◌&&◌, nat_eq, nat_lt, if◌then◌else◌, List, [], ◌∷◌, ◌++◌, flat_map, fold, length, map, find, slice_index_or, slice_set, codes, Some, IfSome, option_map, unwrap_or}
use Rattle.std.specs.Bool.{beq}
use Rattle.std.specs.List.{list_any, starts_with}
use Rattle.ltl_spec.specs.Collections.Lists.{place_of as number_of}
use Rattle.ltl_spec.specs.Formulas.Tokens.{same_name}
use Rattle.ltl_spec.specs.Semantics.Word.{Name}
use Rattle.ltl_spec.specs.Claims.ClaimProgram as spec
use Rattle.ltl_spec.specs.Claims.ClaimProgram.{ClaimLabel, Guard, Program}
use Rattle.ltl_spec.specs.Claims.ClaimMachine.{statement_at}
use Rattle.ltl_spec.specs.Claims.ClaimMeaning as meaning
use Rattle.ltl_claim.specs.declared.claim.GuardStep.{GuardStep}
use Rattle.ltl_claim.specs.declared.claim.GuardStep.TheVariants as step
use Rattle.ltl_claim.specs.ClaimView.{MoveView, StateView, made_moves, same_guard, statement_moves, steps_of}
use Rattle.ltl_claim.specs.ProgramView.{OptionView, OtherwiseKind, StatementView, StepView, ConstantStep, NameStep, NotStep, AndStep, OrStep, no_statement, statement_of}

-- what stands around a statement stands before it
abbrev pub IsNested : Program → Type 0
IsNested P = (i : ℕ) → IfSome (statement_at P i).around (λ c. c < i)

abbrev pub AreNested : List StatementView → Type 0
AreNested ss = (i : ℕ) → IfSome (slice_index_or ss i no_statement).around (λ c. c < i)

-- the statements, the labels, and for the first statements the nearest `do` and where the end of each leads
pub record WaysView : Type 0 where
  pub statements : List StatementView
  pub labels : List ClaimLabel
  pub nearest : List ℕ
  pub after : List ℕ

-- the tables are as long as each other, and the nearest `do` doesn't stand behind
pub record AreLow (statements : List StatementView) (nearest after : List ℕ) : Type 0 where
  pub long : length nearest ≡ length after
  pub few : length after ≤ length statements
  pub low : (i : ℕ) → i < length nearest → slice_index_or nearest i 0 ≤ i

-- the tables are those of the program
pub record AreTables (P : Program) (ns ms : List ℕ) : Type 0 where
  pub nested : IsNested P
  pub nearest : (i : ℕ) → i < length ns → slice_index_or ns i 0 ≡ meaning.nearest P (suc (meaning.end P)) i
  pub after : (i : ℕ) → i < length ms → slice_index_or ms i 0 ≡ meaning.leads P (statement_at P i).next (statement_at P i).around

-- these are the statements and the labels of the program
pub record AreParts (P : Program) (ss : List StatementView) (ls : List ClaimLabel) : Type 0 where
  pub statements : P.statements ≡ map statement_of ss
  pub labels : P.labels ≡ ls

-- the statement of a label, or another number
abbrev pub labelled : List ClaimLabel → ℕ → Name → ℕ
labelled labels end l = unwrap_or (option_map (λ x. x.statement) (find (λ x. same_name l x.name) labels)) end

-- a step, its name numbered
abbrev pub numbered : List Name → StepView → GuardStep
numbered names (ConstantStep b) = step.Constant b
numbered names (NameStep n) = step.Name (number_of same_name n names)
numbered names NotStep = step.Not
numbered names AndStep = step.And
numbered names OrStep = step.Or

-- both steps are the same
abbrev pub same_step : StepView → StepView → Bool
same_step (ConstantStep a) (ConstantStep b) = beq a b
same_step (NameStep m) (NameStep n) = same_name m n
same_step NotStep NotStep = true
same_step AndStep AndStep = true
same_step OrStep OrStep = true
same_step s t = false

-- a move under a guard
abbrev pub move_of : List Name → Guard × ℕ → MoveView
move_of names (g, t) = record { steps = steps_of names g; target = t }

-- how many operands are wanted before a step of a postfix order, if so many are wanted behind it
abbrev pub wanted_before : StepView → ℕ → ℕ
wanted_before (ConstantStep b) n = n - 1
wanted_before (NameStep x) n = n - 1
wanted_before NotStep n = n
wanted_before s n = n + 1

-- the names of the propositions, and where the statements lead
pub record MovesView : Type 0 where
  pub names : List Name
  pub ways : WaysView

-- the tables have an entry for each statement
pub record AreWhole (w : WaysView) : Type 0 where
  pub low : AreLow w.statements w.nearest w.after
  pub long : length w.after ≡ length w.statements

abbrev pub no_state : StateView
no_state = record { accepting = false; moves = [] }

module _ (P : Program) where
  -- the steps of the guard that enables an option were appended, if it has one
  abbrev pub EnablesBy : List Name → spec.First → List GuardStep → Bool → List GuardStep → Type 0
  EnablesBy names first old some new = elim (meaning.enabled P first) [ [] ↦ (some ≡ false) × (new ≡ old) | g ∷ gs ↦ (some ≡ true) × (new ≡ old ++ steps_of names g) ]

  -- the guard under which an `else` beside these options can be taken
  abbrev pub otherwise_guard : List spec.ClaimOption → Guard
  otherwise_guard options = spec.Not (meaning.one_of P (flat_map (λ o. meaning.enabled P o.first) options))

  abbrev pub option_moves : ℕ → spec.ClaimOption → List (Guard × ℕ)
  option_moves i o = made_moves P i o.first (meaning.leads P o.next (Some i))

  -- the first states are those of the statements, with these marks
  pub record AreStates (names : List Name) (marks : List Bool) (n : ℕ) (states : List StateView) : Type 0 where
    pub long : length states ≡ n
    pub marked : (i : ℕ) → i < n → (slice_index_or states i no_state).accepting ≡ slice_index_or marks i false
    pub moves : (i : ℕ) → i < n → (slice_index_or states i no_state).moves ≡ map (move_of names) (statement_moves P i)

-- the steps are those of one of the guards, and there is one
abbrev pub Joins : List Name → List Guard → Bool → List GuardStep → Type 0
Joins names gs some steps = elim gs [ [] ↦ (some ≡ false) × (steps ≡ []) | g ∷ hs ↦ (some ≡ true) × (steps ≡ steps_of names (fold spec.Or g hs)) ]

-- the moves of an assertion behind its guard, where the closing brace has this number
abbrev pub both_moves : Guard → Guard → ℕ → ℕ → List (Guard × ℕ)
both_moves g h t end = if same_guard h (spec.Not g) then (g, end) ∷ [] else (spec.And g h, t) ∷ (spec.And g (spec.Not h), end) ∷ []

-- a label that begins with `accept` marks its statement
abbrev pub marked : ClaimLabel → List Bool → List Bool
marked l marks = if starts_with nat_eq l.name (codes "accept") && nat_lt l.statement (length marks) then slice_set marks l.statement true else marks

-- the marks of so many statements by the labels
pub record AreMarks (labels : List ClaimLabel) (count : ℕ) (marks : List Bool) : Type 0 where
  pub long : length marks ≡ count
  pub each : (i : ℕ) → i < count → slice_index_or marks i false ≡ list_any (λ l. nat_eq l.statement i && starts_with nat_eq l.name (codes "accept")) labels

-- how many operands are wanted before these steps
abbrev pub wanted_of : ℕ → List StepView → ℕ
wanted_of n [] = n
wanted_of n (s ∷ ss) = wanted_before s (wanted_of n ss)

-- these are the parts and the tables of the program
pub record IsProgramOf (P : Program) (w : WaysView) : Type 0 where
  pub parts : AreParts P w.statements w.labels
  pub tables : AreTables P w.nearest w.after

abbrev pub no_option : OptionView
no_option = record { kind = OtherwiseKind; steps = []; next = spec.Nothing }
