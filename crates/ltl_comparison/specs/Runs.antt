-- The possible outcomes of a run of `ltlcompare`: output, message and exit status.
use Rattle.std.specs.Prelude.{◌≡◌, ◌⊎◌, ℕ, List, [], Option, Some, None, Result, Ok, Err, ⊤}
use Rattle.std.specs.Io.KnownBytes.{Appends}
use Rattle.clap.specs.Words.{Text}
use Rattle.ltl_spec.specs.Tools.Comparer.{ComparerPlan, MayCompare, Other, comparer_message, comparer_refused}
use Rattle.ltl_spec.specs.Tools.Limits.{stated_limits}
use Rattle.ltl_spec.specs.Tools.Outcome.{Input, IsGiven, Seen, TellsMessage}
use Rattle.ltl_spec.specs.Tools.Refusal as spec
use Rattle.ltl_streams.specs.Streams.{SinkState}
use Rattle.ltl_words.specs.Comparer.{ComparerPlans, pair_asked}
use Rattle.ltl_words.specs.Tools.{status_number}
use Rattle.ltl_words.specs.declared.comparer.ComparerPlan as code
use Rattle.ltl_words.specs.declared.request.PlanFault.{PlanFault}
use Rattle.ltl_words.specs.declared.request.PlanFault.TheVariants as fault
use Rattle.ltl_words.specs.declared.status.Status.{Status}
use Rattle.ltl_cli.specs.Headline.{IsBehind, file_named}
use Rattle.ltl_cli.specs.Refusals.{refusal_of}
use Rattle.ltl_comparison.specs.Refusals.{subject_in}
use Rattle.ltl_comparison.specs.declared.refusal.Refused.{Refused}

-- a usage error, or lack of memory

abbrev pub TellsUsage : Seen → Type 0
TellsUsage seen = IsGiven seen (comparer_refused stated_limits Other spec.Usage)

abbrev pub TellsMemory : Seen → Type 0
TellsMemory seen = IsGiven seen (comparer_refused stated_limits Other spec.OutOfMemory)

-- In the following, `Stands` says which inputs the file with a name may give

-- What a run may show for two formulas, or for words that ask for none: right answers for some inputs that the named files may give. A formula that
-- stands in the command line comes from no file
abbrev pub PairMayCompare : (Text → Input → Type 0) → Option ComparerPlan → Seen → Type 0
PairMayCompare Stands None seen = TellsUsage seen
PairMayCompare Stands (Some p) seen =
    (first : Input) × (second : Input) × IsBehind Stands (λ _. ⊤) (file_named p.first) first × IsBehind Stands (λ _. ⊤) (file_named p.second) second
    × MayCompare stated_limits p first second seen

-- The words decide what is asked for, unless memory ran out. If they can't be had, that is a usage error, or lack of memory
abbrev pub WordsMayCompare : (Text → Input → Type 0) → Result (List Text) PlanFault → Seen → Type 0
WordsMayCompare Stands (Ok words) seen = PairMayCompare Stands (pair_asked words) seen ⊎ TellsMemory seen
WordsMayCompare Stands (Err fault.Usage) seen = TellsUsage seen
WordsMayCompare Stands (Err fault.OutOfMemory) seen = TellsMemory seen

-- ---- on the way there

-- the plan is that of the command line, or there is no command line
abbrev pub PlansFor : Result (List Text) PlanFault → Result code.ComparerPlan PlanFault → Type 0
PlansFor (Ok words) plan = ComparerPlans words plan
PlansFor (Err e) plan = plan ≡ Err e

-- the status and the message that an outcome ends with

abbrev pub status_with : Result Status Refused → ℕ
status_with (Ok s) = status_number s
status_with (Err e) = spec.status_of (refusal_of e.refusal)

abbrev pub message_with : Result Status Refused → List ℕ
message_with (Ok s) = []
message_with (Err e) = comparer_message stated_limits (subject_in e.subject) (refusal_of e.refusal)

-- the output makes a run of this kind, whatever part of the message was written
pub record IsOutcome (Promise : Seen → Type 0) (old new : SinkState) (result : Result Status Refused) : Type 0 where
  pub output : List ℕ
  pub written : Appends old.bytes new.bytes output
  pub same : new.through ≡ old.through
  pub ends : (seen : Seen) → seen.output ≡ output → seen.output_stage ≡ new.stage → seen.status ≡ status_with result → TellsMessage (message_with result) seen → Promise seen
