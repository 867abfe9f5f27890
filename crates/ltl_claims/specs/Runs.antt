-- The possible outcomes of a run of `ltlclaim`: output, message and exit status.
use Rattle.std.specs.Prelude.{◌≡◌, ◌⊎◌, ◌+◌, ℕ, nat_lt, if◌then◌else◌, List, [], length, Option, Some, None, Result, Ok, Err, ⊤}
use Rattle.std.specs.Io.KnownBytes.{Appends}
use Rattle.clap.specs.Words.{Text}
use Rattle.ltl_spec.specs.Tools.Stage.{Broken}
use Rattle.ltl_spec.specs.Tools.Outcome as spec
use Rattle.ltl_spec.specs.Tools.Outcome.{Answer, Input, IsAtFault, IsBeginningOf, IsGiven, Seen, TellsMessage, printed}
use Rattle.ltl_spec.specs.Claims.ClaimProgram.{Program}
use Rattle.ltl_spec.specs.Claims.ClaimMachine.{claim_program}
use Rattle.ltl_streams.specs.Streams.{SinkState, SourceState}
use Rattle.ltl_words.specs.declared.request.PlanFault.{PlanFault}
use Rattle.ltl_words.specs.declared.request.PlanFault.TheVariants as fault
use Rattle.ltl_claim.specs.ClaimFault as claim
use Rattle.ltl_claim.specs.ClaimAnswer.{claim_answer, most_bytes, place_of}
use Rattle.ltl_claim.specs.ClaimView.{ClaimView, IsClaim}
use Rattle.ltl_claim_hoa.specs.ClaimHoa.{claim_hoa_text}
use Rattle.ltl_claim_hoa.specs.ClaimReads.{KeepsWords}
use Rattle.ltl_cli.specs.declared.source.Source.{Source}
use Rattle.ltl_cli.specs.Headline.{IsBehind}
use Rattle.ltl_cli.specs.Inputs.{WasInput}
use Rattle.ltl_claims.specs.declared.refusal.Refusal as code
use Rattle.ltl_claims.specs.declared.refusal.Refusal.TheVariants as variant
use Rattle.ltl_claims.specs.Plans.{PlansFor, Request, claim_file}
use Rattle.ltl_claims.specs.Refusals.{Refusal, BadClaim, CannotOpen, CannotRead, CannotWrite, OutOfMemory, claim_message, of_plan, refusal_of, status_of}

-- the source was this input, of which no more bytes are read than one past the limit
abbrev pub WasClaim : {R : Type 0} → (R → SourceState) → Source R → Source R → Input → Type 0
WasClaim = WasInput (most_bytes + 1)

-- the program, or the place of the first fault
abbrev pub located : List ℕ → Result Program claim.ClaimFault → Result Program Refusal
located text (Ok P) = Ok P
located text (Err f) = let (number, column) = place_of text f.at in Err (BadClaim number column f.kind)

-- the bytes of an input. Nothing is asked for behind the first byte past the limit
abbrev pub claim_text : Input → Result (List ℕ) Refusal
claim_text (spec.Text bytes) = Ok bytes
claim_text spec.NotOpened = Err CannotOpen
claim_text (spec.Ended bytes) = Ok bytes
claim_text (spec.Failed bytes) = if nat_lt most_bytes (length bytes) then Ok bytes else Err CannotRead

abbrev pub program_in : Result (List ℕ) Refusal → Result Program Refusal
program_in (Ok text) = located text (claim_answer text)
program_in (Err e) = Err e

-- the program that an input is, or the refusal
abbrev pub program_of : Input → Result Program Refusal
program_of input = program_in (claim_text input)

-- no output, the message and the status of the refusal
abbrev pub claim_refused : Refusal → Answer
claim_refused r = record { output = []; message = claim_message r; status = status_of r }

-- the automaton of the program, or the refusal
abbrev pub answer_of : Result Program Refusal → Answer
answer_of (Ok P) = printed (claim_hoa_text P) 0
answer_of (Err e) = claim_refused e

-- the right answer for a request and an input
abbrev pub claim_answered : Result Request PlanFault → Input → Answer
claim_answered (Ok request) input = answer_of (program_of input)
claim_answered (Err e) input = claim_refused (refusal_of (of_plan e))

-- where lack of memory is never reported: a command line without a meaning, and a file at fault
abbrev pub ClaimNeverShort : Result Request PlanFault → Input → Type 0
ClaimNeverShort (Ok request) input = IsAtFault input
ClaimNeverShort (Err fault.Usage) input = ⊤
ClaimNeverShort (Err fault.OutOfMemory) input = ⊥

-- the status 0 means that the input is a claim, and that the output reads as an automaton with its words
abbrev pub TellsClaim : Input → Seen → Type 0
TellsClaim input seen = seen.status ≡ 0 → (text : List ℕ) × (P : Program) × (claim_text input ≡ Ok text) × (claim_program text ≡ Some P) × KeepsWords seen.output P

-- a write of the output or the flush failed, no call followed, and a prefix was written
abbrev pub IsCutOff : Result Request PlanFault → Input → Seen → Type 0
IsCutOff request input seen =
    ((claim_answered request input).message ≡ []) × (seen.status ≡ status_of CannotWrite) × IsBeginningOf seen.output (claim_answered request input).output
    × (seen.output_stage ≡ Broken) × TellsMessage (claim_message CannotWrite) seen

-- lack of memory is reported, before the first byte of output
abbrev pub IsShort : Result Request PlanFault → Input → Seen → Type 0
IsShort request input seen = ¬ (ClaimNeverShort request input) × IsGiven seen (claim_refused OutOfMemory)

-- What a run may show: the right answer, lack of memory, or a prefix of the right output and a report of the failure. A status of 0 has its meaning
pub record MayClaim (request : Result Request PlanFault) (input : Input) (seen : Seen) : Type 0 where
  pub shown : IsGiven seen (claim_answered request input) ⊎ IsShort request input seen ⊎ IsCutOff request input seen
  pub tells : TellsClaim input seen

-- the same for some input that the claim's file or the standard input may give
abbrev pub PlanMayClaim : (Text → Input → Type 0) → (Input → Type 0) → Result Request PlanFault → Seen → Type 0
PlanMayClaim Stands Comes request seen = (input : Input) × IsBehind Stands Comes (claim_file request) input × MayClaim request input seen

-- the same for a command line, or for the lack of one
abbrev pub WordsMayClaim : (Text → Input → Type 0) → (Input → Type 0) → Result (List Text) PlanFault → Seen → Type 0
WordsMayClaim Stands Comes words seen = (request : Result Request PlanFault) × PlansFor words request × PlanMayClaim Stands Comes request seen

-- ---- on the way there

-- memory was refused where that may be reported, or the definitions refuse the input
abbrev pub RefusesInput : Input → code.Refusal → Type 0
RefusesInput input e = (e ≡ variant.OutOfMemory) × ¬ (IsAtFault input) ⊎ (program_of input ≡ Err (refusal_of e))

-- the claim of the program that the input is
abbrev pub IsClaimRead : Input → Result ClaimView code.Refusal → Type 0
IsClaimRead input (Ok c) = (P : Program) × (program_of input ≡ Ok P) × IsClaim P c × ¬ (IsAtFault input)
IsClaimRead input (Err e) = RefusesInput input e

-- the text of its automaton
pub record IsTextOf (input : Input) (text : List ℕ) : Type 0 where
  pub program : Program
  pub read : program_of input ≡ Ok program
  pub text_is : text ≡ claim_hoa_text program
  pub keeps : KeepsWords text program

abbrev pub IsTextMade : {T : Type 0} → Input → (T → List ℕ) → Result T code.Refusal → Type 0
IsTextMade input view (Ok t) = IsTextOf input (view t)
IsTextMade input view (Err e) = RefusesInput input e

-- the status and the message that an outcome ends with

abbrev pub status_with : {T : Type 0} → Result T code.Refusal → ℕ
status_with (Ok x) = 0
status_with (Err e) = status_of (refusal_of e)

abbrev pub message_with : {T : Type 0} → Result T code.Refusal → List ℕ
message_with (Ok x) = []
message_with (Err e) = claim_message (refusal_of e)

-- the output makes such a run, whatever part of the message was written
pub record IsOutcome {T : Type 0} (request : Result Request PlanFault) (input : Input) (old new : SinkState) (result : Result T code.Refusal) : Type 0 where
  pub output : List ℕ
  pub written : Appends old.bytes new.bytes output
  pub same : new.through ≡ old.through
  pub ends : (seen : Seen) → seen.output ≡ output → seen.output_stage ≡ new.stage → seen.status ≡ status_with result
      → TellsMessage (message_with result) seen → MayClaim request input seen
