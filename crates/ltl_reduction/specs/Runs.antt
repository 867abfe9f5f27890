-- The possible outcomes of a run of `ltlreduce`: output, message and exit status.
use Rattle.std.specs.Prelude.{◌≡◌, ◌⊎◌, ◌<◌, ◌↔◌, ℕ, Bool, true, false, List, [], length, Some, Result, Ok, Err, MatchResult, ⊤}
use Rattle.std.specs.Io.KnownBytes.{Appends}
use Rattle.clap.specs.Words.{Text}
use Rattle.ltl_spec.specs.Automata.Automaton.{Automaton}
use Rattle.ltl_spec.specs.Checking.Check.{MarkedAccepts}
use Rattle.ltl_spec.specs.Claims.ClaimMachine.{claim_program}
use Rattle.ltl_spec.specs.Claims.ClaimMeaning.{ClaimAccepts}
use Rattle.ltl_spec.specs.Claims.ClaimProgram.{Program}
use Rattle.ltl_spec.specs.Claims.ClaimTokens.{HasNoPromelaWord}
use Rattle.ltl_spec.specs.Hoa.HoaPrinted.{marked_of}
use Rattle.ltl_spec.specs.Hoa.HoaReading.{MarkedAutomaton, stated_form}
use Rattle.ltl_spec.specs.Semantics.Word.{Lasso}
use Rattle.ltl_spec.specs.Tools.Limits.{stated_limits}
use Rattle.ltl_spec.specs.Tools.Readings.{IsAutomatonIn}
use Rattle.ltl_spec.specs.Tools.Refusal as spec
use Rattle.ltl_spec.specs.Tools.Stage.{Broken}
use Rattle.ltl_spec.specs.Tools.Outcome.{Answer, Input, IsBeginningOf, IsGiven, Seen, TellsMessage, Then, printed}
use Rattle.ltl_streams.specs.Streams.{SinkState}
use Rattle.ltl_text.specs.NamedClaim.{named_claim}
use Rattle.ltl_text.specs.NamedText.{named_text}
use Rattle.ltl_text.specs.ReadBack.{ReadsAtAnyLength}
use Rattle.ltl_reduce.specs.Buchi.{HasFewStates, HasLargeReduction, HasWordsOf}
use Rattle.ltl_reduce.specs.Reduced.{IsReduced}
use Rattle.ltl_words.specs.declared.request.PlanFault.{PlanFault}
use Rattle.ltl_words.specs.declared.request.PlanFault.TheVariants as fault
use Rattle.ltl_cli.specs.declared.refusal.Refusal.{Refusal}
use Rattle.ltl_cli.specs.Checks.{ReadsAutomaton}
use Rattle.ltl_cli.specs.Headline.{IsBehind}
use Rattle.ltl_cli.specs.Inputs.{IsFailed, RefusesUnless}
use Rattle.ltl_cli.specs.Refusals.{of_plan, refusal_of}
use Rattle.ltl_reduction.specs.Messages.{reduce_message}
use Rattle.ltl_reduction.specs.Plans.{PlansFor, Request, automaton_file}

-- no output, the message and the status of the refusal
abbrev pub reduce_refused : spec.Refusal → Answer
reduce_refused r = record { output = []; message = reduce_message r; status = spec.status_of r }

-- the output, or the refusal
abbrev pub reduce_answer : Result (List ℕ) spec.Refusal → Answer
reduce_answer (Ok text) = printed text 0
reduce_answer (Err r) = reduce_refused r

-- the text is that of an automaton with the words, the names and no more sets, states and edges than A, and reads as that automaton
pub record IsReducedText (A : MarkedAutomaton) (text : List ℕ) : Type 0 where
  pub made : Automaton
  pub text_is : text ≡ named_text made A.names
  pub reads : ReadsAtAnyLength text (marked_of made A.names)
  pub reduced : IsReduced A (marked_of made A.names)

-- the text is a claim that accepts exactly the words that A accepts
abbrev pub IsClaimFor : MarkedAutomaton → List ℕ → Type 0
IsClaimFor A text = (P : Program) × (claim_program text ≡ Some P) × ((w : Lasso) → 0 < length w.cycle → ClaimAccepts P w ↔ MarkedAccepts A w)

-- The text is the claim of a Büchi automaton with accepting states that accepts the words of A, with the names of A. It has at most one state for each state of A
-- and each number of its sets, from none to all. The text is read as a claim that accepts these words, unless a name is a word of Promela
pub record IsClaimText (A : MarkedAutomaton) (text : List ℕ) : Type 0 where
  pub made : Automaton
  pub text_is : text ≡ named_claim made A.names
  pub told : made.sets ≡ 0
  pub words : HasWordsOf A made
  pub few : HasFewStates A made
  pub reads : HasNoPromelaWord A.names → IsClaimFor A text

-- such a text, or a refusal if the Büchi automaton of a reduction is too large
abbrev pub MakesClaim : MarkedAutomaton → Result (List ℕ) spec.Refusal → Type 0
MakesClaim A r = MatchResult r (IsClaimText A) (λ e. (e ≡ spec.LargeAutomaton) × HasLargeReduction A)

-- such a claim if one is asked for, and else the text of a reduced automaton
abbrev pub Makes : Bool → MarkedAutomaton → Result (List ℕ) spec.Refusal → Type 0
Makes true A r = MakesClaim A r
Makes false A r = (text : List ℕ) × (r ≡ Ok text) × IsReducedText A text

-- such a text for the automaton that the input is, or the refusal that `ltlcheck` has for that input
abbrev pub Prints : Bool → Input → Result (List ℕ) spec.Refusal → Type 0
Prints claim input = Then (ReadsAutomaton input) (Makes claim)

-- the right answers for a request and an input
abbrev pub ReduceAnswers : Result Request PlanFault → Input → Answer → Type 0
ReduceAnswers (Ok request) input a = (r : Result (List ℕ) spec.Refusal) × Prints request.claim input r × (a ≡ reduce_answer r)
ReduceAnswers (Err e) input a = a ≡ reduce_refused (refusal_of (of_plan e))

-- A status of 0 means that the input is an automaton, and that the output reads as one that accepts the same words, with the same propositions, and with no
-- more sets, states and edges
abbrev pub TellsReduced : Input → Seen → Type 0
TellsReduced input seen =
    seen.status ≡ 0 → (A B : MarkedAutomaton) × IsAutomatonIn stated_limits stated_form input A × ReadsAtAnyLength seen.output B × IsReduced A B

-- A status of 0 means that the input is an automaton, and that the output is a claim with its words
abbrev pub TellsClaim : Input → Seen → Type 0
TellsClaim input seen = seen.status ≡ 0 → (A : MarkedAutomaton) × IsAutomatonIn stated_limits stated_form input A × IsClaimText A seen.output

-- what a status of 0 means, with a claim asked for and without
abbrev pub TellsAsked : Bool → Input → Seen → Type 0
TellsAsked true = TellsClaim
TellsAsked false = TellsReduced

-- without a request the status isn't 0
abbrev pub Tells : Result Request PlanFault → Input → Seen → Type 0
Tells (Ok request) input seen = TellsAsked request.claim input seen
Tells (Err e) input seen = ¬ (seen.status ≡ 0)

-- a write of the output or the flush failed, no call followed, and a prefix of a right output was written
abbrev pub IsCutOff : Result Request PlanFault → Input → Seen → Type 0
IsCutOff request input seen =
    (a : Answer) × ReduceAnswers request input a × (a.message ≡ []) × (seen.status ≡ spec.status_of spec.CannotWrite) × IsBeginningOf seen.output a.output
    × (seen.output_stage ≡ Broken) × TellsMessage (reduce_message spec.CannotWrite) seen

-- where lack of memory is never reported: a command line without a meaning, and an automaton of which a read failed
abbrev pub ReduceNeverShort : Result Request PlanFault → Input → Type 0
ReduceNeverShort (Ok request) input = IsFailed input
ReduceNeverShort (Err fault.Usage) input = ⊤
ReduceNeverShort (Err fault.OutOfMemory) input = ⊥

-- lack of memory is reported, before the first byte of output
abbrev pub IsShort : Result Request PlanFault → Input → Seen → Type 0
IsShort request input seen = ¬ (ReduceNeverShort request input) × IsGiven seen (reduce_refused spec.OutOfMemory)

-- What a run may show: a right answer, lack of memory, or a prefix of a right output and a report of the failure. A status of 0 has its meaning
pub record MayReduce (request : Result Request PlanFault) (input : Input) (seen : Seen) : Type 0 where
  pub shown : ((a : Answer) × ReduceAnswers request input a × IsGiven seen a) ⊎ IsShort request input seen ⊎ IsCutOff request input seen
  pub tells : Tells request input seen

-- the same for some input that the automaton's file or the standard input may give
abbrev pub PlanMayReduce : (Text → Input → Type 0) → (Input → Type 0) → Result Request PlanFault → Seen → Type 0
PlanMayReduce Stands Comes request seen = (input : Input) × IsBehind Stands Comes (automaton_file request) input × MayReduce request input seen

-- the same for a command line, or for the lack of one
abbrev pub WordsMayReduce : (Text → Input → Type 0) → (Input → Type 0) → Result (List Text) PlanFault → Seen → Type 0
WordsMayReduce Stands Comes words seen = (request : Result Request PlanFault) × PlansFor words request × PlanMayReduce Stands Comes request seen

-- ---- before the message

-- the status and the message that an outcome ends with

abbrev pub status_with : {T : Type 0} → Result T Refusal → ℕ
status_with (Ok x) = 0
status_with (Err e) = spec.status_of (refusal_of e)

abbrev pub message_with : {T : Type 0} → Result T Refusal → List ℕ
message_with (Ok x) = []
message_with (Err e) = reduce_message (refusal_of e)

-- an automaton that was read from the input and one with a reduced text, or the refusal of the input
abbrev pub IsMade : {T : Type 0} → Input → (T → MarkedAutomaton) → (T → Automaton) → Result T Refusal → Type 0
IsMade input given made r =
    MatchResult r (λ t. ReadsAutomaton input (Ok (given t)) × IsReducedText (given t) (named_text (made t) (given t).names))
    (RefusesUnless (IsFailed input) (ReadsAutomaton input))

-- an automaton that was read from the input and a Büchi automaton whose claim is one for it, or the refusal of the input or of the claim
abbrev pub IsClaimMade : {T : Type 0} → Input → (T → MarkedAutomaton) → (T → Automaton) → Result T Refusal → Type 0
IsClaimMade input given made r =
    MatchResult r (λ t. ReadsAutomaton input (Ok (given t)) × IsClaimText (given t) (named_claim (made t) (given t).names)) (RefusesUnless (IsFailed input) (Prints true input))

-- the output makes such a run, whatever part of the message was written
pub record IsOutcome {T : Type 0} (request : Result Request PlanFault) (input : Input) (old new : SinkState) (result : Result T Refusal) : Type 0 where
  pub output : List ℕ
  pub written : Appends old.bytes new.bytes output
  pub same : new.through ≡ old.through
  pub ends : (seen : Seen) → seen.output ≡ output → seen.output_stage ≡ new.stage → seen.status ≡ status_with result
      → TellsMessage (message_with result) seen → MayReduce request input seen
