-- What holds of the program of each claim: what links and labels name is there, and so are the names of guards.
use Rattle.std.specs.Prelude.{◌≡◌, ℕ, ◌+◌, ◌<◌, ◌≤◌, true, false, List, [], ◌∷◌, length, slice_index_or, IfSome, ⊤}
use Rattle.std.specs.List.{list_all}
use Rattle.ltl_spec.specs.Semantics.Word.{Name}
use Rattle.ltl_spec.specs.Collections.Sets.{Has}
use Rattle.ltl_spec.specs.Collections.Lists.{HasNoRepeats}
use Rattle.ltl_spec.specs.Formulas.Names.{is_proposition}
use Rattle.ltl_spec.specs.Claims.ClaimProgram.{Guard, Constant, Named, Not, And, Or, Link, Go, First, Test, Check, Both, Otherwise, Leaps, ClaimOption, Statement, Program}
use Rattle.ltl_claim.specs.declared.claim.GuardStep.{GuardStep}
use Rattle.ltl_claim.specs.declared.claim.GuardStep.TheVariants as step
use Rattle.ltl_claim.specs.ClaimView.{ClaimView, MoveView}

-- each element
abbrev pub AllOf : {X : Type 0} → (X → Type 0) → List X → Type 0
AllOf R [] = ⊤
AllOf R (x ∷ xs) = R x × AllOf R xs

-- each element, with its number counted from n
abbrev pub AllFrom : {X : Type 0} → (ℕ → X → Type 0) → ℕ → List X → Type 0
AllFrom Q n [] = ⊤
AllFrom Q n (x ∷ xs) = Q n x × AllFrom Q (n + 1) xs

-- the statement is one of the first n
abbrev pub IsLinkWithin : ℕ → Link → Type 0
IsLinkWithin n (Go i) = i < n
IsLinkWithin n k = ⊤

-- the guard names only these
abbrev pub IsGuardOver : List Name → Guard → Type 0
IsGuardOver names (Constant b) = ⊤
IsGuardOver names (Named n) = Has names n
IsGuardOver names (Not g) = IsGuardOver names g
IsGuardOver names (And g h) = IsGuardOver names g × IsGuardOver names h
IsGuardOver names (Or g h) = IsGuardOver names g × IsGuardOver names h

abbrev pub IsFirstWithin : List Name → ℕ → First → Type 0
IsFirstWithin names n (Test g) = IsGuardOver names g
IsFirstWithin names n (Check g) = IsGuardOver names g
IsFirstWithin names n (Both g h) = IsGuardOver names g × IsGuardOver names h
IsFirstWithin names n Otherwise = ⊤
IsFirstWithin names n (Leaps k) = IsLinkWithin n k

abbrev pub IsOptionWithin : List Name → ℕ → ClaimOption → Type 0
IsOptionWithin names n o = IsFirstWithin names n o.first × IsLinkWithin n o.next

-- what stands around the statement stands before it
abbrev pub IsStatementWithin : List Name → ℕ → ℕ → Statement → Type 0
IsStatementWithin names n i s = IfSome s.around (λ c. c < i) × AllOf (IsOptionWithin names n) s.options × IsLinkWithin n s.next

-- a label may stand before the closing brace
pub record IsProgramWithin (n : ℕ) (P : Program) : Type 0 where
  pub start : IsLinkWithin n P.start
  pub statements : AllFrom (IsStatementWithin P.names n) 0 P.statements
  pub labels : AllOf (λ l. l.statement ≤ n) P.labels
  pub names : list_all is_proposition P.names ≡ true

abbrev pub IsSound : Program → Type 0
IsSound P = IsProgramWithin (length P.statements) P

-- ---- the claim of such a program

-- a step names one of so many propositions
abbrev pub IsStepWithin : ℕ → GuardStep → Type 0
IsStepWithin count (step.Name i) = i < count
IsStepWithin count s = ⊤

-- of n statements: the move leads to one of them, or to the closing brace
abbrev pub IsMoveWithin : ℕ → ℕ → MoveView → Type 0
IsMoveWithin count n m = AllOf (IsStepWithin count) m.steps × (m.target ≤ n)

pub record IsClaimWithin (c : ClaimView) : Type 0 where
  pub start : c.start ≤ length c.states
  pub moves : (i : ℕ) → i < length c.states
      → AllOf (IsMoveWithin (length c.names) (length c.states)) (slice_index_or c.states i (record { accepting = false; moves = [] })).moves
  pub names : list_all is_proposition c.names ≡ true
  pub single : HasNoRepeats c.names
