-- The automaton of a claim in memory, how a call returns it, and its refusals as numbers.
use Rattle.std.specs.Prelude.{◌≡◌, ℕ, List, [], ◌∷◌, Option, None, Some, Ok, option_map, position, slice_get, slice_index_or}
use Rattle.std.specs.Option.{option_map_or, unwrap_or}
use Rattle.std.specs.Str.{bytes_eq}
use Rattle.ltl_spec.specs.Tools.Outcome.{Ended}
use Rattle.ltl_claim.specs.ClaimFault.{ClaimFaultKind, NotANeverClaim, Unsupported, BadName, LabelTwice, ElseTwice, BreakOutsideOfDo, UndefinedLabel, TextAfterEnd, LimitPassed, BadToken, claim_fault_text}
use Rattle.ltl_claims.specs.Refusals.{Refusal, Usage, CannotOpen, CannotRead, CannotWrite, OutOfMemory, BadClaim, claim_message}
use Rattle.ltl_claims.specs.Runs.{MayClaim}
use Rattle.ltl_c.specs.declared.claim_code.ClaimCode.{ClaimCode}
use Rattle.ltl_c.specs.Calls.{Delivers, run_with}

-- the faults of a claim by number
abbrev pub claim_faults : List ClaimFaultKind
claim_faults = NotANeverClaim ∷ Unsupported ∷ BadName ∷ LabelTwice ∷ ElseTwice ∷ BreakOutsideOfDo ∷ UndefinedLabel ∷ TextAfterEnd ∷ LimitPassed ∷ BadToken ∷ []

-- the number of a fault: its place in the list, by its text
abbrev pub claim_fault_number : ClaimFaultKind → ℕ
claim_fault_number kind = unwrap_or (position (λ k. bytes_eq (claim_fault_text k) (claim_fault_text kind)) claim_faults) 0

-- the refusals by number, with this fault at this place. What `ltlclaim` shares with the other programs has their numbers
abbrev pub claim_refusals : ℕ → ℕ → ℕ → List (Option Refusal)
claim_refusals fault line column = None ∷ Some Usage ∷ Some OutOfMemory ∷ None ∷ None ∷ None ∷ None ∷ None ∷ None ∷ None ∷ None ∷ None ∷ None
    ∷ Some CannotOpen ∷ Some CannotRead ∷ Some CannotWrite ∷ option_map (BadClaim line column) (slice_get claim_faults fault) ∷ []

-- the refusal with this code, if there is one. Numbers that it doesn't have may be any
abbrev pub claim_refusal_in : ClaimCode → Option Refusal
claim_refusal_in c = slice_index_or (claim_refusals c.fault c.line c.column) c.kind None

abbrev pub claim_code_with : ℕ → ℕ → ℕ → ℕ → ClaimCode
claim_code_with kind fault line column = record { kind = kind; fault = fault; line = line; column = column }

-- the code that a call reports for this refusal, or for none: all numbers are 0 but those that the refusal has
abbrev pub claim_code_for : Option Refusal → ClaimCode
claim_code_for None = claim_code_with 0 0 0 0
claim_code_for (Some Usage) = claim_code_with 1 0 0 0
claim_code_for (Some OutOfMemory) = claim_code_with 2 0 0 0
claim_code_for (Some CannotOpen) = claim_code_with 13 0 0 0
claim_code_for (Some CannotRead) = claim_code_with 14 0 0 0
claim_code_for (Some CannotWrite) = claim_code_with 15 0 0 0
claim_code_for (Some (BadClaim line column kind)) = claim_code_with 16 (claim_fault_number kind) line column

-- the line that `ltlclaim` prints for the refusal; empty if there is none
abbrev pub claim_told : Option Refusal → List ℕ
claim_told reason = option_map_or claim_message reason []

-- with this text in its input, `ltlclaim` may end with this status, this output and this message
abbrev pub MayEndClaim : List ℕ → ℕ → List ℕ → List ℕ → Type 0
MayEndClaim text status output message = MayClaim (Ok (record { file = None })) (Ended text) (run_with status output message)

-- The program may end with this status, this text in its output, and the line for this refusal. The text is delivered, and the code is that of the refusal, or
-- of none
pub record HandsClaim (claim : List ℕ) (code : ClaimCode) (old new : List ℕ) (count status : ℕ) : Type 0 where
  pub text : List ℕ
  pub ended : ℕ
  pub reason : Option Refusal
  pub shown : MayEndClaim claim ended text (claim_told reason)
  pub coded : code ≡ claim_code_for reason
  pub delivered : Delivers ended text old new count status
