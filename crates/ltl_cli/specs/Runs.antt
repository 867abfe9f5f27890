-- The possible outcomes of a run of a program: output, message and exit status.
use Rattle.std.specs.Prelude.{◌≡◌, ◌⊎◌, ◌<◌, ℕ, List, [], length, Option, Some, Result, Ok, Err, option_map}
use Rattle.std.specs.Io.KnownBytes.{Appends}
use Rattle.ltl_spec.specs.Hoa.HoaReading.{stated_form}
use Rattle.ltl_spec.specs.Tools.Limits.{stated_limits}
use Rattle.ltl_spec.specs.Tools.Refusal as spec
use Rattle.ltl_spec.specs.Tools.Stage.{Open, Closed, Broken}
use Rattle.ltl_spec.specs.Tools.Outcome.{FormulaWord, Input, IsNeverShort, IsShortOfMemory, Seen, TellsMessage}
use Rattle.ltl_spec.specs.Tools.Run.{MayShow, PlanOf}
use Rattle.ltl_streams.specs.Streams.{Breaks, SinkState, SourceState, Takes}
use Rattle.ltl_cli.specs.declared.refusal.Refusal.{Refusal}
use Rattle.ltl_words.specs.declared.status.Status.{Status}
use Rattle.ltl_words.specs.declared.request.Plan.{Plan}
use Rattle.ltl_words.specs.declared.request.PlanFault.{PlanFault}
use Rattle.ltl_words.specs.declared.request.PlanFault.TheVariants as fault
use Rattle.ltl_cli.specs.Refusals.{refusal_of}
use Rattle.ltl_words.specs.Tools.{status_number}
use Rattle.ltl_cli.specs.declared.source.Source.{Source}
use Rattle.ltl_cli.specs.Inputs.{HoldsText, IsFailed, IsSourceAtFault}
use Rattle.ltl_words.specs.Plans.{formula_word, planned}

-- the formula of a plan
abbrev pub formula_asked : (tool : spec.Tool) → PlanOf tool → FormulaWord
formula_asked spec.Translator p = p.formula
formula_asked spec.Checker p = p.formula
formula_asked spec.Evaluator p = p.formula

-- Where lack of memory is never reported for a plan: as for its formula, or if a read of the checker's automaton failed
abbrev pub PlanNeverShort : (tool : spec.Tool) → Option (PlanOf tool) → Input → Input → Type 0
PlanNeverShort spec.Checker (Some p) input file = IsNeverShort stated_limits.formula_bytes (Some p.formula) input ⊎ IsFailed file
PlanNeverShort tool plan input file = IsNeverShort stated_limits.formula_bytes (option_map (formula_asked tool) plan) input

-- the same for words, unless memory ran out for these
abbrev pub RunNeverShort : spec.Tool → Result Plan PlanFault → Input → Input → Type 0
RunNeverShort tool (Err fault.OutOfMemory) input file = ⊥
RunNeverShort tool plan input file = PlanNeverShort tool (planned tool plan) input file

-- A run of a program for its plan and its inputs shows what it may show. Lack of memory isn't reported for usage, an input of which a read failed, or a
-- formula that wasn't opened or is too long; if there was none for the command line, nothing else is reported
pub record ToolRun (tool : spec.Tool) (plan : Result Plan PlanFault) (input file : Input) (seen : Seen) : Type 0 where
  pub shown : MayShow stated_limits stated_form tool (planned tool plan) input file seen
  pub memory : RunNeverShort tool plan input file → ¬ (seen.status ≡ spec.status_of spec.OutOfMemory)
  pub short : plan ≡ Err fault.OutOfMemory → IsShortOfMemory stated_limits tool seen

-- a run with this status, whose output and message went to these sinks
pub record Shows (Promise : Seen → Type 0) (output_old output_new message_old message_new : SinkState) (status : ℕ) : Type 0 where
  pub output : List ℕ
  pub message : List ℕ
  pub written : Appends output_old.bytes output_new.bytes output
  pub told : Appends message_old.bytes message_new.bytes message
  pub promised : Promise (record { output = output; output_stage = output_new.stage; message = message; message_stage = message_new.stage; status = status })

-- the same for writers, whose bytes alone are known, not the outcomes of their calls
pub record ShowsBytes (Promise : Seen → Type 0) (output_old output_new message_old message_new : Option (List ℕ)) (status : ℕ) : Type 0 where
  pub seen : Seen
  pub written : Appends output_old output_new seen.output
  pub told : Appends message_old message_new seen.message
  pub ended : seen.status ≡ status
  pub promised : Promise seen

-- the plan names a file for the formula
abbrev pub NamesFile : Result Plan PlanFault → Type 0
NamesFile (Ok p) = ¬ (HoldsText (formula_word p.formula))
NamesFile (Err e) = ⊥

-- The causes of a status of 5: the last call on the output failed, or the formula's file is at fault
abbrev pub HasCause : {R : Type 0} → (R → SourceState) → Result Plan PlanFault → Source R → SinkState → Type 0
HasCause state plan source output = (output.stage ≡ Broken) ⊎ NamesFile plan × IsSourceAtFault state source

-- the sink still writes to the same writer
abbrev pub StaysAt : SinkState → SinkState → Type 0
StaysAt old new = new.through ≡ old.through

-- ---- before the message

-- all bytes were taken, and then the sink was flushed
pub record Finishes (old new : SinkState) (bytes : List ℕ) : Type 0 where
  pub same : new.through ≡ old.through
  pub stage : old.stage ≡ Open → new.stage ≡ Closed
  pub grown : Appends old.bytes new.bytes bytes

-- all bytes were written, or some before a call failed; if there are none, there was no call
abbrev pub IsTold : SinkState → SinkState → List ℕ → Type 0
IsTold old new bytes = Takes old new bytes ⊎ (0 < length bytes) × Breaks old new bytes

-- the status and the message that an outcome ends with

abbrev pub status_with : Result Status Refusal → ℕ
status_with (Ok s) = status_number s
status_with (Err e) = spec.status_of (refusal_of e)

abbrev pub message_with : spec.Tool → Result Status Refusal → List ℕ
message_with tool (Ok s) = []
message_with tool (Err e) = spec.message stated_limits tool (refusal_of e)

-- The output before and after the run makes such a run, whatever part of the message was written
pub record IsOutcome (tool : spec.Tool) (plan : Result Plan PlanFault) (input file : Input) (old new : SinkState) (result : Result Status Refusal) : Type 0 where
  pub output : List ℕ
  pub written : Appends old.bytes new.bytes output
  pub same : new.through ≡ old.through
  pub ends : (seen : Seen) → seen.output ≡ output → seen.output_stage ≡ new.stage → seen.status ≡ status_with result
      → TellsMessage (message_with tool result) seen → ToolRun tool plan input file seen
