-- From the automaton of a claim to what a call hands over.
use Rattle.std.proofs.Common.{◌≡◌, ◌∙◌, ap, sym, subst, refl, inl, ℕ, List, [], ◌∷◌, ◌++◌, Option, Some, None, codes, append_assoc}
use Rattle.std.specs.Fmt.{decimal}
use Rattle.ltl_spec.specs.Tools.Outcome.{Ended, stage_behind}
use Rattle.ltl_spec.specs.Tools.Stage.{Open}
use Rattle.ltl_claim.specs.ClaimFault as fault
use Rattle.ltl_claim.specs.ClaimFault.{claim_fault_text}
use Rattle.ltl_claims.specs.declared.refusal.Refusal as own
use Rattle.ltl_claims.specs.Refusals as spec
use Rattle.ltl_claims.specs.Refusals.{bad_claim_text, claim_message, refusal_of, refusal_text, status_of}
use Rattle.ltl_claims.specs.Runs.{IsTextOf, RefusesInput}
use Rattle.ltl_claims.proofs.RunLaws.{refusal_shown, text_shown}
use Rattle.ltl_c.specs.declared.claim_code.ClaimCode.{ClaimCode}
use Rattle.ltl_c.specs.Calls.{Delivers, run_with}
use Rattle.ltl_c.specs.Claims.{HandsClaim, MayEndClaim, claim_code_for, claim_refusal_in}

-- ---- a code tells its refusal

pub claim_code_read : (reason : Option spec.Refusal) → claim_refusal_in (claim_code_for reason) ≡ reason
claim_code_read None = refl
claim_code_read (Some spec.Usage) = refl
claim_code_read (Some spec.CannotOpen) = refl
claim_code_read (Some spec.CannotRead) = refl
claim_code_read (Some spec.CannotWrite) = refl
claim_code_read (Some spec.OutOfMemory) = refl
claim_code_read (Some (spec.BadClaim line column fault.NotANeverClaim)) = refl
claim_code_read (Some (spec.BadClaim line column fault.Unsupported)) = refl
claim_code_read (Some (spec.BadClaim line column fault.BadName)) = refl
claim_code_read (Some (spec.BadClaim line column fault.LabelTwice)) = refl
claim_code_read (Some (spec.BadClaim line column fault.ElseTwice)) = refl
claim_code_read (Some (spec.BadClaim line column fault.BreakOutsideOfDo)) = refl
claim_code_read (Some (spec.BadClaim line column fault.UndefinedLabel)) = refl
claim_code_read (Some (spec.BadClaim line column fault.TextAfterEnd)) = refl
claim_code_read (Some (spec.BadClaim line column fault.LimitPassed)) = refl
claim_code_read (Some (spec.BadClaim line column fault.BadToken)) = refl

-- ---- the parts of a line

-- two parts, one behind the other
put_then : (o x y l m : List ℕ) → l ≡ o ++ x → m ≡ l ++ y → m ≡ o ++ (x ++ y)
put_then o x y l m p q = q ∙ ap (λ z. z ++ y) p ∙ append_assoc o x y

put_as : (l x y m : List ℕ) → x ≡ y → m ≡ l ++ x → m ≡ l ++ y
put_as l x y m e q = q ∙ ap (λ z. l ++ z) e

module _ (number column : ℕ) (kind : fault.ClaimFaultKind) where
  abbrev up_to_number : List ℕ
  up_to_number = codes "claim: line " ++ decimal number

  abbrev up_to_column : List ℕ
  up_to_column = up_to_number ++ codes ", column " ++ decimal column

  pub fault_line : (o a b c d e f m n t : List ℕ) → m ≡ decimal number → n ≡ decimal column → t ≡ claim_fault_text kind
      → a ≡ o ++ codes "claim: line " → b ≡ a ++ m → c ≡ b ++ codes ", column " → d ≡ c ++ n → e ≡ d ++ codes ": " → f ≡ e ++ t → f ≡ o ++ bad_claim_text number column kind
  fault_line o a b c d e f m n t em en et ea eb ec ed ee ef =
      let line = put_then o (codes "claim: line ") (decimal number) a b ea (put_as a m (decimal number) b em eb) in
      let comma = put_then o up_to_number (codes ", column ") b c line ec in
      let place = put_then o (up_to_number ++ codes ", column ") (decimal column) c d comma (put_as c n (decimal column) d en ed) in
      let colon = put_then o up_to_column (codes ": ") d e place ee in
      put_then o (up_to_column ++ codes ": ") (claim_fault_text kind) e f colon (put_as e t (claim_fault_text kind) f et ef)

pub claim_line : (r : spec.Refusal) (l m q : List ℕ) → l ≡ codes "ltlclaim: " → m ≡ l ++ refusal_text r → q ≡ m ++ 10 ∷ [] → q ≡ claim_message r
claim_line r l m q el em eq = eq ∙ ap (λ x. x ++ 10 ∷ []) (em ∙ ap (λ x. x ++ refusal_text r) el)

-- ---- what the call hands over

-- of a refusal the output is asked nothing
refusal_open : (e : spec.Refusal) → stage_behind (status_of e) ≡ Open
refusal_open spec.Usage = refl
refusal_open spec.CannotOpen = refl
refusal_open spec.CannotRead = refl
refusal_open spec.CannotWrite = refl
refusal_open spec.OutOfMemory = refl
refusal_open (spec.BadClaim line column kind) = refl

module _ (text : List ℕ) (code : ClaimCode) (old new : List ℕ) (count status : ℕ) where
  pub claim_handed : (hoa : List ℕ) → IsTextOf (Ended text) hoa → code ≡ claim_code_for None → Delivers 0 hoa old new count status → HandsClaim text code old new count status
  claim_handed hoa made none d = record {
    text = hoa;
    ended = 0;
    reason = None;
    shown = text_shown (record { file = None }) (Ended text) hoa made (run_with 0 hoa []) refl refl refl (inl (refl, refl));
    coded = none;
    delivered = d;
  }

  pub claim_refused : (e : own.Refusal) → RefusesInput (Ended text) e → code ≡ claim_code_for (Some (refusal_of e)) → (n : ℕ) → n ≡ status_of (refusal_of e) → Delivers n [] old new count status
      → HandsClaim text code old new count status
  claim_refused e h some n q d = record {
    text = [];
    ended = n;
    reason = Some (refusal_of e);
    shown = subst (λ (m : ℕ). MayEndClaim text m [] (claim_message (refusal_of e))) (sym q)
        (refusal_shown (record { file = None }) (Ended text) e h (run_with (status_of (refusal_of e)) [] (claim_message (refusal_of e))) refl (refusal_open (refusal_of e)) refl (inl (refl, refl)));
    coded = some;
    delivered = d;
  }
