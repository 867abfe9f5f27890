-- The possible outcomes of a run of `ltldraw`: output, message and exit status.
use Rattle.std.specs.Prelude.{◌≡◌, ◌⊎◌, ◌<◌, ◌≤◌, ℕ, List, [], Some, None, Result, Ok, Err, MatchResult, ⊤}
use Rattle.std.specs.Io.KnownBytes.{Appends}
use Rattle.clap.specs.Words.{Text}
use Rattle.ltl_spec.specs.Formulas.Formula.{Reading}
use Rattle.ltl_spec.specs.Semantics.Word.{Lasso}
use Rattle.ltl_spec.specs.Tools.Limits.{stated_limits}
use Rattle.ltl_spec.specs.Tools.Programs.{ReadsFormula, ReadsWord, RefusesHoa}
use Rattle.ltl_spec.specs.Tools.Refusal as spec
use Rattle.ltl_spec.specs.Tools.Stage.{Broken}
use Rattle.ltl_spec.specs.Tools.Outcome.{Answer, Input, IsBeginningOf, IsGiven, Seen, TellsMessage, Then, printed, taken}
use Rattle.ltl_streams.specs.Streams.{SinkState}
use Rattle.ltl_syntax.specs.FormulaView.{FormulaView, IsFormula, reading_of}
use Rattle.ltl_words.specs.declared.request.PlanFault.{PlanFault}
use Rattle.ltl_words.specs.declared.request.PlanFault.TheVariants as fault
use Rattle.ltl_cli.specs.declared.refusal.Refusal.{Refusal}
use Rattle.ltl_cli.specs.declared.refusal.Refusal.TheVariants.{CannotWrite, LargeProduct, OutOfMemory}
use Rattle.ltl_cli.specs.Headline.{IsBehind}
use Rattle.ltl_cli.specs.Inputs.{IsFailed}
use Rattle.ltl_cli.specs.Refusals.{of_plan, refusal_of}
use Rattle.ltl_cli.specs.Runs.{Finishes}
use Rattle.ltl_spec.specs.Hoa.HoaNames.{hoa_names}
use Rattle.ltl_spec.specs.Hoa.HoaReading.{HoaReadsWithin, stated_form}
use Rattle.ltl_pictures.specs.DotText.{dot_text}
use Rattle.ltl_pictures.specs.NamedAutomaton.{NamedAutomaton}
use Rattle.ltl_pictures.specs.RunText.{RunPicture, named_of, run_text}
use Rattle.ltl_pictures.specs.Runs.{IsRunOf, run_size}
use Rattle.ltl_pictures.specs.declared.fault.RunFault as run
use Rattle.ltl_pictures.specs.Timeline.{word_timeline}
use Rattle.ltl_pictures.specs.TimelineView.{FailsToShow, HasTrueMarks}
use Rattle.ltl_pictures.specs.declared.fault.TimelineFault as timeline
use Rattle.ltl_draw.specs.Messages.{draw_message}
use Rattle.ltl_draw.specs.Plans.{PlansFor, Request, Picture, Run, Timeline, automaton_file}

-- no output, the message and the status of the refusal
abbrev pub draw_refused : spec.Refusal → Answer
draw_refused r = record { output = []; message = draw_message r; status = spec.status_of r }

-- the output, or the refusal
abbrev pub draw_answer : Result (List ℕ) spec.Refusal → Answer
draw_answer (Ok text) = printed text 0
draw_answer (Err r) = draw_refused r

-- the timeline of a word and a formula: a line for each node of the formula's tree, whose marks are the truth
abbrev pub ShowsTruth : Reading → Lasso → Result (List ℕ) spec.Refusal → Type 0
ShowsTruth R w r = (f : FormulaView) × IsFormula f.nodes f.names × (reading_of f ≡ R) × HasTrueMarks f w (λ text. r ≡ Ok text)

-- the text reads as this automaton, and has these names for it and for each of its states
abbrev pub IsNamedText : List ℕ → NamedAutomaton → Type 0
IsNamedText text N = HoaReadsWithin stated_limits stated_form text N.automaton × (N.names ≡ hoa_names text N.automaton.states)

-- a text reads as an automaton with its names, or is refused for its fault
abbrev pub ReadsNamedText : List ℕ → Result NamedAutomaton spec.Refusal → Type 0
ReadsNamedText text r = MatchResult r (IsNamedText text) (RefusesHoa stated_limits stated_form text)

-- the same of the whole text of an input
abbrev pub ReadsNamed : Input → Result NamedAutomaton spec.Refusal → Type 0
ReadsNamed input = Then (λ r. r ≡ taken stated_limits.hoa_bytes input) ReadsNamedText

-- the automaton and its names with an accepting run on the word, or with none if it doesn't accept the word; refused exactly if the search is too large
abbrev pub RunsOn : NamedAutomaton → Lasso → Result RunPicture spec.Refusal → Type 0
RunsOn N w (Ok P) = (named_of P ≡ N) × IsRunOf N.automaton w P.run × (run_size N.automaton w ≤ stated_limits.product)
RunsOn N w (Err e) = (e ≡ spec.LargeProduct) × (stated_limits.product < run_size N.automaton w)

-- The output for a request, or the refusal: the drawing of the automaton in the input, with its names; the same with a run on a word, whose text is read
-- first; the timeline of a word; or that of a word and a formula, whose text is read first and whose names count together with the word's
abbrev pub Prints : Request → Input → Result (List ℕ) spec.Refusal → Type 0
Prints (Picture file) input = Then (ReadsNamed input) (λ N r. r ≡ Ok (dot_text N))
Prints (Run text file) input = Then (ReadsWord stated_limits [] text) (λ w. Then (ReadsNamed input) (λ N. Then (RunsOn N w) (λ P r. r ≡ Ok (run_text P))))
Prints (Timeline text None) input = Then (ReadsWord stated_limits [] text) (λ w r. r ≡ Ok (word_timeline w))
Prints (Timeline text (Some formula)) input = Then (ReadsFormula stated_limits formula) (λ R. Then (ReadsWord stated_limits R.names text) (λ w. ShowsTruth R w))

-- the right answers for a request and an input
abbrev pub DrawAnswers : Result Request PlanFault → Input → Answer → Type 0
DrawAnswers (Ok request) input a = (r : Result (List ℕ) spec.Refusal) × Prints request input r × (a ≡ draw_answer r)
DrawAnswers (Err e) input a = a ≡ draw_refused (refusal_of (of_plan e))

-- a write of the output or the flush failed, no call followed, and a prefix was written
abbrev pub IsCutOff : Result Request PlanFault → Input → Seen → Type 0
IsCutOff request input seen =
    (a : Answer) × DrawAnswers request input a × (a.message ≡ []) × (seen.status ≡ spec.status_of spec.CannotWrite) × IsBeginningOf seen.output a.output
    × (seen.output_stage ≡ Broken) × TellsMessage (draw_message spec.CannotWrite) seen

-- where lack of memory is never reported: a command line without a meaning, and an automaton of which a read failed
abbrev pub DrawNeverShort : Result Request PlanFault → Input → Type 0
DrawNeverShort (Ok (Picture file)) input = IsFailed input
DrawNeverShort (Ok (Run text file)) input = IsFailed input
DrawNeverShort (Ok (Timeline text formula)) input = ⊥
DrawNeverShort (Err fault.Usage) input = ⊤
DrawNeverShort (Err fault.OutOfMemory) input = ⊥

-- lack of memory is reported, before the first byte of output
abbrev pub IsShort : Result Request PlanFault → Input → Seen → Type 0
IsShort request input seen = ¬ (DrawNeverShort request input) × IsGiven seen (draw_refused spec.OutOfMemory)

-- what a run may show: a right answer, lack of memory, or a prefix of the right output and a report of the failure
abbrev pub MayDraw : Result Request PlanFault → Input → Seen → Type 0
MayDraw request input seen = ((a : Answer) × DrawAnswers request input a × IsGiven seen a) ⊎ IsShort request input seen ⊎ IsCutOff request input seen

-- the same for some input that the automaton's file or the standard input may give
abbrev pub PlanMayDraw : (Text → Input → Type 0) → (Input → Type 0) → Result Request PlanFault → Seen → Type 0
PlanMayDraw Stands Comes request seen = (input : Input) × IsBehind Stands Comes (automaton_file request) input × MayDraw request input seen

-- the same for a command line, or for the lack of one
abbrev pub WordsMayDraw : (Text → Input → Type 0) → (Input → Type 0) → Result (List Text) PlanFault → Seen → Type 0
WordsMayDraw Stands Comes words seen = (request : Result Request PlanFault) × PlansFor words request × PlanMayDraw Stands Comes request seen

-- only drawings read the input
abbrev pub NeedsNoInput : Result Request PlanFault → Type 0
NeedsNoInput (Ok (Picture file)) = ⊥
NeedsNoInput (Ok (Run text file)) = ⊥
NeedsNoInput request = ⊤

-- ---- before the message

-- the status and the message that an outcome ends with

abbrev pub status_with : {T : Type 0} → Result T Refusal → ℕ
status_with (Ok x) = 0
status_with (Err e) = spec.status_of (refusal_of e)

abbrev pub message_with : {T : Type 0} → Result T Refusal → List ℕ
message_with (Ok x) = []
message_with (Err e) = draw_message (refusal_of e)

-- the output makes such a run, whatever part of the message was written
pub record IsOutcome {T : Type 0} (request : Result Request PlanFault) (input : Input) (old new : SinkState) (result : Result T Refusal) : Type 0 where
  pub output : List ℕ
  pub written : Appends old.bytes new.bytes output
  pub same : new.through ≡ old.through
  pub ends : (seen : Seen) → seen.output ≡ output → seen.output_stage ≡ new.stage → seen.status ≡ status_with result
      → TellsMessage (message_with result) seen → MayDraw request input seen

-- the refusal for a search that doesn't finish
abbrev pub of_run : run.RunFault → Refusal
of_run run.TheVariants.TooLarge = LargeProduct
of_run run.TheVariants.OutOfMemory = OutOfMemory

-- ---- timelines on their way out

abbrev pub of_timeline : timeline.TimelineFault → Refusal
of_timeline timeline.TheVariants.CannotWrite = CannotWrite
of_timeline timeline.TheVariants.OutOfMemory = OutOfMemory

-- such a text was written and flushed, or a prefix of one until a call failed, or nothing because memory ran out
abbrev pub IsSent : {T : Type 0} → ((List ℕ → Type 0) → Type 0) → SinkState → SinkState → Result T timeline.TimelineFault → Type 0
IsSent IsText old new r = MatchResult r (λ _. IsText (Finishes old new)) (FailsToShow old new IsText)
