-- What is read of a source, and the answer to it.
use Rattle.std.specs.Prelude.{◌≡◌, ℕ, ◌+◌, ◌<◌, ◌≤◌, List, length, take, ◌⊎◌, IfSome, Option, Result, Ok, Err, ⊤}
use Rattle.std.specs.Io.KnownBytes.{Consumes, IsAtEnd}
use Rattle.ltl_spec.specs.Tools.Stage.{Stage, Open, Closed, Broken}
use Rattle.ltl_claim.specs.declared.fault.ClaimFault.{ClaimFault}
use Rattle.ltl_claim.specs.declared.fault.ClaimFault.TheVariants.{At, CannotRead, OutOfMemory}
use Rattle.ltl_claim.specs.declared.fault.ClaimFaultKind.TheVariants.{LimitPassed}
use Rattle.ltl_claim.specs.ClaimAnswer.{most_bytes, place_of}
use Rattle.ltl_claim.specs.ClaimFault as fault
use Rattle.ltl_claim.specs.TokenView.{kind_of}
use Rattle.ltl_claim.specs.ClaimStep.{most_statements}
use Rattle.ltl_claim.specs.ClaimView.{ClaimView, Answers}
use Rattle.ltl_claim.specs.Soundness.{IsClaimWithin}

-- The answer for some text, which is what the reader holds where that is known
abbrev pub AnswersHeld : Option (List ℕ) → Result ClaimView ClaimFault → Type 0
AnswersHeld known r = (text : List ℕ) × IfSome known (λ bytes. text ≡ bytes) × Answers text r

-- the answer is one about the whole text
abbrev pub IsOfText : ClaimFault → Type 0
IsOfText (At line column kind) = ⊤
IsOfText _ = ⊥

-- the bytes up to one past the limit were taken
abbrev pub TakesText : Option (List ℕ) → Option (List ℕ) → Type 0
TakesText old new = IfSome old (λ text. Consumes old new (take (most_bytes + 1) text))

-- no more bytes were taken than one past the limit
abbrev pub TakesUpTo : Option (List ℕ) → Option (List ℕ) → Type 0
TakesUpTo old new = (bytes : List ℕ) × Consumes old new bytes × (length bytes ≤ most_bytes + 1)

-- fewer bytes were taken than one past the limit
abbrev pub TakesFewer : Option (List ℕ) → Option (List ℕ) → Type 0
TakesFewer old new = (bytes : List ℕ) × Consumes old new bytes × (length bytes < most_bytes + 1)

-- the bytes were taken: all there were, or one past the limit
pub record IsRead (old new : Option (List ℕ)) (bytes : List ℕ) : Type 0 where
  pub taken : Consumes old new bytes
  pub few : length bytes ≤ most_bytes + 1
  pub whole : length bytes ≤ most_bytes → IsAtEnd new

-- the stage of an open source behind a reading of a text
abbrev pub StageRead : List ℕ → Stage → Type 0
StageRead bytes s = (s ≡ Closed) ⊎ ((length bytes ≡ most_bytes + 1) × (s ≡ Open))

-- the stage of an open source behind a call: what is told of the whole text is told at its end, or behind the limit
abbrev pub LeavesStage : Result ClaimView ClaimFault → Stage → Type 0
LeavesStage (Ok c) s = s ≡ Closed
LeavesStage (Err (At line column kind)) s = (s ≡ Closed) ⊎ ((kind ≡ LimitPassed) × (s ≡ Open))
LeavesStage (Err CannotRead) s = s ≡ Broken
LeavesStage (Err OutOfMemory) s = (s ≡ Closed) ⊎ (s ≡ Open)

-- the stage of an open source behind a read that failed, or without memory for the text
abbrev pub FailsStage : ClaimFault → Stage → Type 0
FailsStage CannotRead s = s ≡ Broken
FailsStage OutOfMemory s = s ≡ Open
FailsStage (At line column kind) s = ⊥

-- the fault at an offset
abbrev pub PlacesFault : List ℕ → ℕ → fault.ClaimFaultKind → ClaimFault → Type 0
PlacesFault text at kind (At line column k) = ((line, column) ≡ place_of text at) × (kind_of k ≡ kind)
PlacesFault text at kind e = ⊥

-- a text that is too long has no other answer
abbrev pub PassesLimit : List ℕ → Result ClaimView ClaimFault → Type 0
PassesLimit text r = most_bytes < length text → (line column : ℕ) × (r ≡ Err (At line column LimitPassed)) × ((line, column) ≡ place_of text most_bytes)

-- a claim's numbers are below their counts, and it has few enough statements
abbrev pub IsInBounds : Result ClaimView ClaimFault → Type 0
IsInBounds (Ok c) = IsClaimWithin c × (length c.states ≤ most_statements)
IsInBounds (Err e) = Unit {0}
