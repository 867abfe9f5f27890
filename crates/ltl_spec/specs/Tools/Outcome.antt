-- What a program takes in and what it answers.
use Rattle.std.specs.Prelude.{◌≡◌, ℕ, ◌<◌, nat_lt, if◌then◌else◌, List, [], ◌⊎◌, length, take, Option, Some, None, Result, Ok, Err, ⊤}
use Rattle.ltl_spec.specs.Tools.Limits.{Limits}
use Rattle.ltl_spec.specs.Tools.Refusal.{Tool, Refusal, CannotOpen, CannotRead, CannotWrite, OutOfMemory, message, status_of}
use Rattle.ltl_spec.specs.Tools.Stage.{Stage, Open, Closed, Broken}

-- a text from the command line, a file that couldn't be opened, bytes up to the end, or bytes after which reading fails
pub data Input : Type 0 where
  Text : List ℕ → Input
  NotOpened : Input
  Ended Failed : List ℕ → Input

-- the formula itself, or the name of its file
pub data FormulaWord : Type 0 where
  Given File : List ℕ → FormulaWord

-- the formula's input, where this stands behind the file's name
abbrev pub input_of : FormulaWord → Input → Input
input_of (Given text) input = Text text
input_of (File name) input = input

-- the bytes of an input. Nothing is asked for behind the first byte past the limit
abbrev pub taken : ℕ → Input → Result (List ℕ) Refusal
taken most (Text bytes) = Ok bytes
taken most NotOpened = Err CannotOpen
taken most (Ended bytes) = Ok bytes
taken most (Failed bytes) = if nat_lt most (length bytes) then Ok bytes else Err CannotRead

-- a file that couldn't be opened, or a read that failed
abbrev pub IsAtFault : Input → Type 0
IsAtFault NotOpened = ⊤
IsAtFault (Failed bytes) = ⊤
IsAtFault input = ⊥

-- Where lack of memory is never reported: usage, a file at fault, and a formula's text that is too long
abbrev pub IsNeverShort : ℕ → Option FormulaWord → Input → Type 0
IsNeverShort most None input = ⊤
IsNeverShort most (Some (Given text)) input = most < length text
IsNeverShort most (Some (File name)) input = IsAtFault input

-- what a program writes to its output and as a message, and its exit status
pub record Answer : Type 0 where
  pub output : List ℕ
  pub message : List ℕ
  pub status : ℕ

-- no output, the message and the status of the refusal
abbrev pub refused : Limits → Tool → Refusal → Answer
refused l tool r = record { output = []; message = message l tool r; status = status_of r }

-- this output and no message
abbrev pub printed : List ℕ → ℕ → Answer
printed text status = record { output = text; message = []; status = status }

-- one step and then another: the refusal of the first, or what the second makes of its value
abbrev pub Then : {A B : Type 0} → (Result A Refusal → Type 0) → (A → Result B Refusal → Type 0) → Result B Refusal → Type 0
Then {A} First Second r = ((e : Refusal) × First (Err e) × (r ≡ Err e)) ⊎ ((a : A) × First (Ok a) × Second a r)

-- the answer of the outcome
abbrev pub answer_by : {A : Type 0} → Limits → Tool → (A → Answer) → Result A Refusal → Answer
answer_by l tool f (Ok a) = f a
answer_by l tool f (Err r) = refused l tool r

-- the first list begins the second one
abbrev pub IsBeginningOf : List ℕ → List ℕ → Type 0
IsBeginningOf xs ys = (k : ℕ) × (xs ≡ take k ys)

-- What is seen of a run: what its output and the writer of its message took, how the calls on each of them went, and the exit status. Both were
-- open when it began
pub record Seen : Type 0 where
  pub output : List ℕ
  pub output_stage : Stage
  pub message : List ℕ
  pub message_stage : Stage
  pub status : ℕ

-- The message went out whole, or a write of it failed, behind which there was no call. Where there is none, nothing is written
abbrev pub TellsMessage : List ℕ → Seen → Type 0
TellsMessage text seen =
    (seen.message ≡ text) × (seen.message_stage ≡ Open) ⊎ (0 < length text) × IsBeginningOf seen.message text × (seen.message_stage ≡ Broken)

-- Behind an answer with a status of 0 or 1 the output was flushed, once and behind its last byte; of a refusal it was asked nothing
abbrev pub stage_behind : ℕ → Stage
stage_behind status = if nat_lt status 2 then Closed else Open

-- the run gave the answer. The writer of the message may fail, which changes nothing else
abbrev pub IsGiven : Seen → Answer → Type 0
IsGiven seen a = (seen.status ≡ a.status) × (seen.output ≡ a.output) × (seen.output_stage ≡ stage_behind a.status) × TellsMessage a.message seen

-- memory was refused, before the first byte of output
abbrev pub IsShortOfMemory : Limits → Tool → Seen → Type 0
IsShortOfMemory l tool seen = IsGiven seen (refused l tool OutOfMemory)

-- A write of the output or the flush failed, behind which there was no call, and a beginning went out. There was no refusal
abbrev pub IsCutOff : Limits → Tool → (Answer → Type 0) → Seen → Type 0
IsCutOff l tool Answers seen =
    (a : Answer) × Answers a × (a.message ≡ []) × (seen.status ≡ status_of CannotWrite) × IsBeginningOf seen.output a.output
    × (seen.output_stage ≡ Broken) × TellsMessage (message l tool CannotWrite) seen

-- What is promised of every run. That memory was really refused isn't said here
abbrev pub IsPromised : Limits → Tool → (Answer → Type 0) → Seen → Type 0
IsPromised l tool Answers seen = ((a : Answer) × Answers a × IsGiven seen a) ⊎ IsShortOfMemory l tool seen ⊎ IsCutOff l tool Answers seen
