-- What the code reads, as inputs of the definitions.
use Rattle.std.specs.Prelude.{◌≡◌, ◌<◌, ◌≤◌, ◌⊎◌, ◌+◌, ℕ, List, [], length, Option, Some, None, Result, Ok, Err, IfSome, MatchResult, ⊤}
use Rattle.std.specs.Io.KnownBytes.{Consumes}
use Rattle.ltl_spec.specs.Tools.Limits.{stated_limits}
use Rattle.ltl_spec.specs.Tools.Refusal as tools
use Rattle.ltl_spec.specs.Tools.Stage.{Open, Closed, Broken}
use Rattle.ltl_spec.specs.Tools.Outcome as spec
use Rattle.ltl_spec.specs.Tools.Programs.{InputReads}
use Rattle.ltl_streams.specs.Streams.{SourceState}
use Rattle.ltl_syntax.specs.FormulaView.{FormulaView, reading_of}
use Rattle.ltl_cli.specs.declared.source.Source.{Source}
use Rattle.ltl_cli.specs.declared.source.Source.TheVariants.{Text, Input, NotOpened}
use Rattle.ltl_cli.specs.declared.refusal.Refusal.{Refusal}
use Rattle.ltl_cli.specs.declared.refusal.Refusal.TheVariants.{CannotRead, OutOfMemory}
use Rattle.ltl_cli.specs.Refusals.{refusal_of}

-- the most bytes of a formula's file that are read: one more than its text may have
abbrev pub most_taken : ℕ
most_taken = stated_limits.formula_bytes + 1

-- the same for an automaton
abbrev pub most_of_automaton : ℕ
most_of_automaton = stated_limits.hoa_bytes + 1

-- at most n bytes were read, and they are a prefix of the rest
abbrev pub TakesUpTo : Option (List ℕ) → Option (List ℕ) → ℕ → Type 0
TakesUpTo old new n = (bs : List ℕ) × Consumes old new bs × (length bs ≤ n)

-- fewer than n bytes were read
abbrev pub TakesFewer : Option (List ℕ) → Option (List ℕ) → ℕ → Type 0
TakesFewer old new n = (bs : List ℕ) × Consumes old new bs × (length bs < n)

-- The input of a reader with these bytes, if they are known: it gives all of them, or a read fails after a prefix of them
abbrev pub IsStream : Option (List ℕ) → spec.Input → Type 0
IsStream (Some xs) (spec.Ended bs) = bs ≡ xs
IsStream (Some xs) (spec.Failed bs) = spec.IsBeginningOf bs xs
IsStream None (spec.Ended bs) = ⊤
IsStream None (spec.Failed bs) = ⊤
IsStream known _ = ⊥

-- the bytes that the source has left; only a reader has any
abbrev pub bytes_of : {R : Type 0} → (R → Option (List ℕ)) → Source R → Option (List ℕ)
bytes_of remaining Text = Some []
bytes_of remaining (Input r) = remaining r
bytes_of remaining NotOpened = Some []

-- The source of a file gives this input. If the command line names a file, the source isn't `Text`
abbrev pub IsInputOf : {R : Type 0} → (R → Option (List ℕ)) → Source R → spec.Input → Type 0
IsInputOf remaining Text input = input ≡ spec.NotOpened
IsInputOf remaining (Input r) input = IsStream (remaining r) input
IsInputOf remaining NotOpened input = input ≡ spec.NotOpened

-- ---- sources that record the outcomes of their calls

-- no call on the source failed or found the end, if it has a reader
abbrev pub IsOpen : {R : Type 0} → (R → SourceState) → Source R → Type 0
IsOpen state (Input r) = (state r).stage ≡ Open
IsOpen state Text = ⊤
IsOpen state NotOpened = ⊤

-- at most this many bytes were read, no call failed, and none followed the end
pub record WentWell (most : ℕ) (old new : SourceState) : Type 0 where
  pub taken : TakesUpTo old.rest new.rest most
  pub stage : (new.stage ≡ Open) ⊎ (new.stage ≡ Closed)

-- these bytes were read, fewer than this many, and then a call failed, which was the last one
pub record BrokeBehind (most : ℕ) (old new : SourceState) (bytes : List ℕ) : Type 0 where
  pub taken : Consumes old.rest new.rest bytes
  pub few : length bytes < most
  pub stage : new.stage ≡ Broken

-- What input a stream was, by its states before and after: it had these bytes, or it gave these and then failed
abbrev pub WasStream : ℕ → SourceState → SourceState → spec.Input → Type 0
WasStream most old new (spec.Ended bs) = IfSome old.rest (λ xs. bs ≡ xs) × WentWell most old new
WasStream most old new (spec.Failed bs) = BrokeBehind most old new bs
WasStream most old new _ = ⊥

-- why a stream wasn't read: a call failed, or memory ran out
abbrev pub IsUnread : ℕ → SourceState → SourceState → Refusal → Type 0
IsUnread most old new e = (e ≡ CannotRead) × ((bs : List ℕ) × BrokeBehind most old new bs) ⊎ (e ≡ OutOfMemory) × WentWell most old new

-- the result of reading a stream
abbrev pub IsReadOf : {T : Type 0} → ℕ → SourceState → SourceState → Result T Refusal → Type 0
IsReadOf most old new r = MatchResult r (λ _. WentWell most old new) (IsUnread most old new)

-- The source of a file was this input. If the command line names a file, the source isn't `Text`
abbrev pub WasInput : {R : Type 0} → ℕ → (R → SourceState) → Source R → Source R → spec.Input → Type 0
WasInput most state Text Text input = input ≡ spec.NotOpened
WasInput most state (Input r) (Input s) input = WasStream most (state r) (state s) input
WasInput most state NotOpened NotOpened input = input ≡ spec.NotOpened
WasInput most state _ _ input = ⊥

-- the same for the formula's file and for the automaton's

abbrev pub WasFormula : {R : Type 0} → (R → SourceState) → Source R → Source R → spec.Input → Type 0
WasFormula = WasInput most_taken

abbrev pub WasAutomaton : {R : Type 0} → (R → SourceState) → Source R → Source R → spec.Input → Type 0
WasAutomaton = WasInput most_of_automaton

-- nothing was opened, or the last call on the reader failed
abbrev pub IsSourceAtFault : {R : Type 0} → (R → SourceState) → Source R → Type 0
IsSourceAtFault state Text = ⊤
IsSourceAtFault state (Input r) = (state r).stage ≡ Broken
IsSourceAtFault state NotOpened = ⊤

-- the second source is open and gives the bytes of the first
abbrev pub GivesBytesOf : {R S : Type 0} → (R → Option (List ℕ)) → (S → SourceState) → Source R → Source S → Type 0
GivesBytesOf remaining state Text Text = ⊤
GivesBytesOf remaining state (Input r) (Input s) = ((state s).rest ≡ remaining r) × ((state s).stage ≡ Open)
GivesBytesOf remaining state NotOpened NotOpened = ⊤
GivesBytesOf remaining state _ _ = ⊥

-- the stream is open, and whatever input it is later has the property
abbrev pub TurnsOut : {R : Type 0} → (R → SourceState) → (spec.Input → Type 0) → R → Type 0
TurnsOut {R} state May r = ((state r).stage ≡ Open) × ((most : ℕ) (later : R) (input : spec.Input) → WasStream most (state r) (state later) input → May input)

-- the source of a file whose inputs have the property
abbrev pub IsFileOf : {R : Type 0} → (R → SourceState) → (spec.Input → Type 0) → Source R → Type 0
IsFileOf state May Text = ⊥
IsFileOf state May (Input r) = TurnsOut state May r
IsFileOf state May NotOpened = May spec.NotOpened

-- a read of the input failed
abbrev pub IsFailed : spec.Input → Type 0
IsFailed (spec.Failed bytes) = ⊤
IsFailed input = ⊥

-- The code finds what the definitions find, or refuses it as they do, or memory ran out. That isn't reported where `Never` holds

abbrev pub RefusesUnless : {A : Type 0} → Type 0 → (Result A tools.Refusal → Type 0) → Refusal → Type 0
RefusesUnless Never Finds e = (e ≡ OutOfMemory) × ¬ Never ⊎ Finds (Err (refusal_of e))

abbrev pub IsFoundUnless : {A F : Type 0} → Type 0 → (Result A tools.Refusal → Type 0) → (F → A) → Result F Refusal → Type 0
IsFoundUnless Never Finds view r = MatchResult r (λ f. Finds (Ok (view f))) (RefusesUnless Never Finds)

-- the same for what is found of a formula

abbrev pub RefusesFor : {A : Type 0} → spec.FormulaWord → spec.Input → (Result A tools.Refusal → Type 0) → Refusal → Type 0
RefusesFor word input = RefusesUnless (spec.IsNeverShort stated_limits.formula_bytes (Some word) input)

abbrev pub IsFound : {A F : Type 0} → spec.FormulaWord → spec.Input → (Result A tools.Refusal → Type 0) → (F → A) → Result F Refusal → Type 0
IsFound word input = IsFoundUnless (spec.IsNeverShort stated_limits.formula_bytes (Some word) input)

-- the input reads as this formula, or is refused for this reason
abbrev pub RefusesInput : spec.FormulaWord → spec.Input → Refusal → Type 0
RefusesInput word input = RefusesFor word input (InputReads stated_limits (spec.input_of word input))

abbrev pub IsReadFrom : spec.FormulaWord → spec.Input → Result FormulaView Refusal → Type 0
IsReadFrom word input = IsFound word input (InputReads stated_limits (spec.input_of word input)) reading_of

-- the command line has the text
abbrev pub HoldsText : spec.FormulaWord → Type 0
HoldsText (spec.Given text) = ⊤
HoldsText (spec.File name) = ⊥
