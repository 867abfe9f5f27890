-- Why a text is no claim, and how that is called in a message.
use Rattle.std.specs.Prelude.{ℕ, List, codes}

pub data ClaimFaultKind : Type 0 where
  NotANeverClaim Unsupported BadName LabelTwice ElseTwice BreakOutsideOfDo UndefinedLabel TextAfterEnd LimitPassed BadToken : ClaimFaultKind

abbrev pub claim_fault_text : ClaimFaultKind → List ℕ
claim_fault_text NotANeverClaim = codes "not a never claim"
claim_fault_text Unsupported = codes "unsupported"
claim_fault_text BadName = codes "bad name"
claim_fault_text LabelTwice = codes "label twice"
claim_fault_text ElseTwice = codes "else twice"
claim_fault_text BreakOutsideOfDo = codes "break outside of do"
claim_fault_text UndefinedLabel = codes "undefined label"
claim_fault_text TextAfterEnd = codes "text after the end"
claim_fault_text LimitPassed = codes "limit passed"
claim_fault_text BadToken = codes "bad token"

-- a fault, and the offset of its first byte
pub record ClaimFault : Type 0 where
  pub kind : ClaimFaultKind
  pub at : ℕ
