-- The claims of the code, and the answer to a text.
use Rattle.std.specs.Prelude.{◌≡◌, ℕ, ◌<◌, Bool, false, ◌&&◌, if◌then◌else◌, List, [], ◌∷◌, ◌++◌, length, flat_map, slice_index_or, Some, None, Result, Ok, Err}
use Rattle.std.specs.Bool.{beq}
use Rattle.ltl_spec.specs.Collections.Lists.{place_of as number_of}
use Rattle.ltl_spec.specs.Formulas.Tokens.{same_name}
use Rattle.ltl_spec.specs.Semantics.Word.{Name}
use Rattle.ltl_spec.specs.Claims.ClaimProgram as spec
use Rattle.ltl_spec.specs.Claims.ClaimProgram.{Guard, Program, First}
use Rattle.ltl_spec.specs.Claims.ClaimMachine.{statement_at}
use Rattle.ltl_spec.specs.Claims.ClaimMeaning as meaning
use Rattle.ltl_claim.specs.declared.claim.GuardStep.{GuardStep}
use Rattle.ltl_claim.specs.declared.claim.GuardStep.TheVariants as step
use Rattle.ltl_claim.specs.declared.fault.ClaimFault.{ClaimFault}
use Rattle.ltl_claim.specs.declared.fault.ClaimFault.TheVariants.{At, CannotRead, OutOfMemory}
use Rattle.ltl_claim.specs.ClaimFault as fault
use Rattle.ltl_claim.specs.ClaimAnswer.{claim_answer, place_of}
use Rattle.ltl_claim.specs.TokenView.{kind_of}

-- ---- the automaton of a claim, with guards on its moves

-- a move as its steps, and its target
pub record MoveView : Type 0 where
  pub steps : List GuardStep
  pub target : ℕ

pub record StateView : Type 0 where
  pub accepting : Bool
  pub moves : List MoveView

-- the names of the propositions, the first state, and a state for each statement
pub record ClaimView : Type 0 where
  pub names : List Name
  pub start : ℕ
  pub states : List StateView

-- a guard in postfix order, its names numbered
abbrev pub steps_of : List Name → Guard → List GuardStep
steps_of names (spec.Constant b) = step.Constant b ∷ []
steps_of names (spec.Named n) = step.Name (number_of same_name n names) ∷ []
steps_of names (spec.Not g) = steps_of names g ++ step.Not ∷ []
steps_of names (spec.And g h) = (steps_of names g ++ steps_of names h) ++ step.And ∷ []
steps_of names (spec.Or g h) = (steps_of names g ++ steps_of names h) ++ step.Or ∷ []

-- the move is this one
abbrev pub IsMove : List Name → MoveView → Guard × ℕ → Type 0
IsMove names m (g, t) = (m.steps ≡ steps_of names g) × (m.target ≡ t)

abbrev pub AreMoves : List Name → List MoveView → List (Guard × ℕ) → Type 0
AreMoves names [] [] = Unit {0}
AreMoves names (m ∷ ms) (x ∷ xs) = IsMove names m x × AreMoves names ms xs
AreMoves names ms xs = ⊥

-- both guards are the same
abbrev pub same_guard : Guard → Guard → Bool
same_guard (spec.Constant a) (spec.Constant b) = beq a b
same_guard (spec.Named m) (spec.Named n) = same_name m n
same_guard (spec.Not g) (spec.Not h) = same_guard g h
same_guard (spec.And a b) (spec.And c d) = same_guard a c && same_guard b d
same_guard (spec.Or a b) (spec.Or c d) = same_guard a c && same_guard b d
same_guard g h = false

module _ (P : Program) where
  -- The moves of an option of a statement. Of an assertion that contradicts its guard there is the move to the closing brace alone, without the assertion
  abbrev pub made_moves : ℕ → First → ℕ → List (Guard × ℕ)
  made_moves i (spec.Both g h) t = if same_guard h (spec.Not g) then (g, meaning.end P) ∷ [] else meaning.moves P i (spec.Both g h) t
  made_moves i first t = meaning.moves P i first t

  abbrev pub statement_moves : ℕ → List (Guard × ℕ)
  statement_moves i = flat_map (λ o. made_moves i o.first (meaning.leads P o.next (Some i))) (statement_at P i).options

  pub record IsState (names : List Name) (i : ℕ) (s : StateView) : Type 0 where
    pub accepting : s.accepting ≡ meaning.accepts P i
    pub moves : AreMoves names s.moves (statement_moves i)

  -- the claim of a program
  pub record IsClaim (c : ClaimView) : Type 0 where
    pub names : c.names ≡ meaning.program_names P
    pub start : c.start ≡ meaning.leads P P.start None
    pub count : length c.states ≡ meaning.end P
    pub states : (i : ℕ) → i < meaning.end P → IsState c.names i (slice_index_or c.states i (record { accepting = false; moves = [] }))

-- ---- the answer to a text

abbrev pub IsFaultOf : List ℕ → Result Program fault.ClaimFault → ClaimFault → Type 0
IsFaultOf text (Ok P) (At line column kind) = ⊥
IsFaultOf text (Err f) (At line column kind) = ((line, column) ≡ place_of text f.at) × (kind_of kind ≡ f.kind)
IsFaultOf text r OutOfMemory = Unit {0}
IsFaultOf text r CannotRead = Unit {0}

-- the claim of the program that the text is, or the first fault of the text
abbrev pub Answers : List ℕ → Result ClaimView ClaimFault → Type 0
Answers text (Ok c) = (P : Program) × (claim_answer text ≡ Ok P) × IsClaim P c
Answers text (Err e) = IsFaultOf text (claim_answer text) e
