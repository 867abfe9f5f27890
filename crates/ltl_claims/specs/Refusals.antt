-- Why `ltlclaim` refuses, with its message and its exit status.
use Rattle.std.specs.Prelude.{ℕ, List, ◌++◌, codes, decimal}
use Rattle.ltl_spec.specs.Automata.ClaimText.{line}
use Rattle.ltl_claim.specs.ClaimFault.{ClaimFaultKind, claim_fault_text}
use Rattle.ltl_claim.specs.TokenView.{kind_of}
use Rattle.ltl_claim.specs.declared.fault.ClaimFault as claim
use Rattle.ltl_claim.specs.declared.fault.ClaimFault.TheVariants as fault
use Rattle.ltl_words.specs.declared.request.PlanFault.{PlanFault}
use Rattle.ltl_words.specs.declared.request.PlanFault.TheVariants as words
use Rattle.ltl_claims.specs.declared.refusal.Refusal as code
use Rattle.ltl_claims.specs.declared.refusal.Refusal.TheVariants as variant

pub data Refusal : Type 0 where
  Usage CannotOpen CannotRead CannotWrite OutOfMemory : Refusal
  -- the line and the column of the fault
  BadClaim : ℕ → ℕ → ClaimFaultKind → Refusal

abbrev pub bad_claim_text : ℕ → ℕ → ClaimFaultKind → List ℕ
bad_claim_text number column kind = codes "claim: line " ++ decimal number ++ codes ", column " ++ decimal column ++ codes ": " ++ claim_fault_text kind

abbrev pub refusal_text : Refusal → List ℕ
refusal_text Usage = codes "usage: ltlclaim [-N file]"
refusal_text CannotOpen = codes "cannot open"
refusal_text CannotRead = codes "cannot read"
refusal_text CannotWrite = codes "cannot write"
refusal_text OutOfMemory = codes "out of memory"
refusal_text (BadClaim number column kind) = bad_claim_text number column kind

-- the line that the program writes when it refuses
abbrev pub claim_message : Refusal → List ℕ
claim_message r = line (codes "ltlclaim: " ++ refusal_text r)

-- the exit status: usage 2, a text that is no claim 3, memory 4, a stream 5
abbrev pub status_of : Refusal → ℕ
status_of Usage = 2
status_of (BadClaim number column kind) = 3
status_of OutOfMemory = 4
status_of CannotOpen = 5
status_of CannotRead = 5
status_of CannotWrite = 5

-- ---- refusals of the code

abbrev pub refusal_of : code.Refusal → Refusal
refusal_of variant.Usage = Usage
refusal_of variant.CannotOpen = CannotOpen
refusal_of variant.CannotRead = CannotRead
refusal_of variant.CannotWrite = CannotWrite
refusal_of variant.OutOfMemory = OutOfMemory
refusal_of (variant.BadClaim number column kind) = BadClaim number column (kind_of kind)

abbrev pub of_plan : PlanFault → code.Refusal
of_plan words.Usage = variant.Usage
of_plan words.OutOfMemory = variant.OutOfMemory

abbrev pub of_claim : claim.ClaimFault → code.Refusal
of_claim (fault.At number column kind) = variant.BadClaim number column kind
of_claim fault.CannotRead = variant.CannotRead
of_claim fault.OutOfMemory = variant.OutOfMemory
