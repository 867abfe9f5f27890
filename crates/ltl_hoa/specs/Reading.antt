-- The relation of the reader's state to the text so far, and the answer to a text.
use Rattle.std.specs.Prelude.{◌≡◌, ℕ, ◌<◌, take, IfSome, ◌≤◌, ◌+◌, List, ◌++◌, length, fold, ◌⊎◌, Option, Some, None, Result, Ok, Err, MatchResult, ⊤}
use Rattle.std.specs.Io.KnownBytes.{Consumes}
use Rattle.ltl_spec.specs.Tools.Limits.{stated_limits}
use Rattle.ltl_spec.specs.Hoa.HoaToken.{HoaItem, hoa_items, last_line}
use Rattle.ltl_spec.specs.Hoa.HoaReading.{stated_form, MarkedAutomaton, HoaReadsWithin}
use Rattle.ltl_spec.specs.Hoa.HoaFault as spec
use Rattle.ltl_spec.specs.Hoa.HoaPlace.{Before, before_all}
use Rattle.ltl_spec.specs.Hoa.HoaFault.{take_item, hoa_fault}
use Rattle.ltl_spec.specs.Hoa.HoaMachine as machine
use Rattle.ltl_spec.specs.Hoa.HoaMachine.{Came, Reached}
use Rattle.ltl_spec.specs.Tools.Stage.{Stage, Open, Closed, Broken}
use Rattle.ltl_hoa.specs.declared.fault.HoaFault.{HoaFault}
use Rattle.ltl_hoa.specs.declared.fault.HoaFault.TheVariants.{AtLine, CannotRead, OutOfMemory}
use Rattle.ltl_hoa.specs.declared.fault.HoaFaultKind.TheVariants.{LimitPassed}
use Rattle.ltl_hoa.specs.declared.stream_reader.Found.{Found}
use Rattle.ltl_hoa.specs.TokenView.{kind_of}
use Rattle.ltl_hoa.specs.Resuming.{resume, IsLexing}
use Rattle.ltl_hoa.specs.ParserView.{Shows}
use Rattle.ltl_hoa.specs.StreamReaderView.{StreamReaderView}

-- where some items of a text lead to
abbrev pub reached : List ℕ → List HoaItem → Reached
reached whole items = machine.reached stated_limits stated_form whole items

abbrev pub fault_of : Found → spec.HoaFault
fault_of f = record { kind = kind_of f.kind; line = f.line }

-- without a fault the items so far were taken, and the lexer holds the rest
pub record IsSound (m : StreamReaderView) (text : List ℕ) : Type 0 where
  pub items : List HoaItem
  pub lexing : IsLexing m.lexer m.line
  pub rest : (more : List ℕ) → hoa_items (text ++ more) ≡ items ++ resume m.lexer m.line more
  pub before : Before
  pub came : Came
  pub reached : (whole : List ℕ) → reached whole items ≡ (Ok before, came)
  pub shows : Shows m.parser before came

-- the leftmost fault was met
pub record IsFaulty (f : Found) (text : List ℕ) : Type 0 where
  pub items : List HoaItem
  pub rest : (more : List ℕ) → (later : List HoaItem) × (hoa_items (text ++ more) ≡ items ++ later)
  pub faulty : (whole : List ℕ) → fold (take_item stated_limits stated_form whole) (Ok before_all) items ≡ Err (fault_of f)

abbrev pub IsIn : Option Found → StreamReaderView → List ℕ → Type 0
IsIn None m text = IsSound m text
IsIn (Some f) m text = IsFaulty f text

-- the stream reader has taken the text
pub record IsAfter (m : StreamReaderView) (text : List ℕ) : Type 0 where
  pub given : m.given ≡ length text
  pub line : m.line ≡ last_line text
  pub inside : IsIn m.fault m text

-- all items of the text were taken
pub record IsTold (m : StreamReaderView) (text : List ℕ) : Type 0 where
  pub before : Before
  pub came : Came
  pub reached : reached text (hoa_items text) ≡ (Ok before, came)
  pub shows : Shows m.parser before came

-- without a fault, or the leftmost one was met
abbrev pub IsToldIn : Option Found → StreamReaderView → List ℕ → Type 0
IsToldIn None m text = IsTold m text
IsToldIn (Some f) m text = hoa_fault stated_limits stated_form text ≡ Some (fault_of f)

-- the stream reader has taken the text and the token that ends with it
pub record IsEnded (m : StreamReaderView) (text : List ℕ) : Type 0 where
  pub few : length text ≤ stated_limits.hoa_bytes
  pub line : m.line ≡ last_line text
  pub inside : IsToldIn m.fault m text

-- why the text is no automaton
abbrev pub RefusesText : List ℕ → HoaFault → Type 0
RefusesText text (AtLine line kind) = hoa_fault stated_limits stated_form text ≡ Some (record { kind = kind_of kind; line = line })
RefusesText text CannotRead = ⊤
RefusesText text OutOfMemory = ⊤

-- the text reads as the automaton, or is refused
abbrev pub Answers : List ℕ → Result MarkedAutomaton HoaFault → Type 0
Answers text r = MatchResult r (HoaReadsWithin stated_limits stated_form text) (RefusesText text)

-- The answer for some text, which is what the reader holds where that is known
abbrev pub AnswersHeld : Option (List ℕ) → Result MarkedAutomaton HoaFault → Type 0
AnswersHeld known r = (text : List ℕ) × IfSome known (λ bytes. text ≡ bytes) × Answers text r

-- the answer is one about the whole text
abbrev pub IsOfText : HoaFault → Type 0
IsOfText (AtLine line kind) = ⊤
IsOfText _ = ⊥

-- the bytes up to one past the limit were taken
abbrev pub TakesText : Option (List ℕ) → Option (List ℕ) → Type 0
TakesText old new = IfSome old (λ text. Consumes old new (take (stated_limits.hoa_bytes + 1) text))

-- no more bytes were taken than one past the limit
abbrev pub TakesUpTo : Option (List ℕ) → Option (List ℕ) → Type 0
TakesUpTo old new = (bytes : List ℕ) × Consumes old new bytes × (length bytes ≤ stated_limits.hoa_bytes + 1)

-- fewer bytes were taken than one past the limit
abbrev pub TakesFewer : Option (List ℕ) → Option (List ℕ) → Type 0
TakesFewer old new = (bytes : List ℕ) × Consumes old new bytes × (length bytes < stated_limits.hoa_bytes + 1)

-- the stage of an open source behind a call: what is told of the whole text is told at its end, or behind the limit
abbrev pub LeavesStage : Result MarkedAutomaton HoaFault → Stage → Type 0
LeavesStage (Ok A) s = s ≡ Closed
LeavesStage (Err (AtLine line kind)) s = (s ≡ Closed) ⊎ ((kind ≡ LimitPassed) × (s ≡ Open))
LeavesStage (Err CannotRead) s = s ≡ Broken
LeavesStage (Err OutOfMemory) s = (s ≡ Closed) ⊎ (s ≡ Open)
