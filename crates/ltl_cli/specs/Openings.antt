-- What a program opens for its command line, in which order, and when it may be closed: the promise of `run` about its files.
use Rattle.std.specs.Prelude.{◌≡◌, ◌⊎◌, ◌↔◌, ℕ, List, [], ◌∷◌, ◌++◌, Option, Some, None, Result, Ok, Err, ⊤}
use Rattle.clap.specs.Words.{Text}
use Rattle.ltl_spec.specs.Tools.Refusal.{Tool, Checker, OutOfMemory, status_of}
use Rattle.ltl_spec.specs.Tools.Outcome.{FormulaWord, Given, File, Input}
use Rattle.ltl_spec.specs.Tools.Stage.{Misused}
use Rattle.ltl_streams.specs.Streams.{SourceState}
use Rattle.ltl_words.specs.declared.request.PlanFault.{PlanFault}
use Rattle.ltl_words.specs.Words.{Request, request_of}
use Rattle.ltl_cli.specs.declared.source.Source.{Source}
use Rattle.ltl_cli.specs.declared.source.Source.TheVariants as source

-- what can be opened: the file with this name, and the standard input
pub data Opening : Type 0 where
  NamedFile : Text → Opening
  StandardInput : Opening

-- the formula's file, if the command line names one
abbrev pub formula_opened : FormulaWord → List Opening
formula_opened (Given text) = []
formula_opened (File name) = NamedFile name ∷ []

-- what the checker reads its automaton from: the file that the command line names, or else the standard input
abbrev pub automaton_opened : Option Text → List Opening
automaton_opened None = StandardInput ∷ []
automaton_opened (Some name) = NamedFile name ∷ []

-- What a program opens for its request, in this order: nothing if there is none, and only the checker an automaton
abbrev pub opened_for : Tool → Option Request → List Opening
opened_for tool None = []
opened_for Checker (Some r) = formula_opened r.formula ++ automaton_opened r.automaton
opened_for tool (Some r) = formula_opened r.formula

-- the request of a command line, if it could be had
abbrev pub request_had : Tool → Result (List Text) PlanFault → Option Request
request_had tool (Ok words) = request_of tool words
request_had tool (Err e) = None

module _ {F : Type 0} (Opened : F → List Opening → Type 0) (Stands : F → Text → Input → Type 0) (Comes : F → Input → Type 0) where
  -- Between the two states of the files these were opened, and nothing else. What the files and the standard input may give stays the same
  pub record Opens (more : List Opening) (old new : F) : Type 0 where
    pub opened : (before : List Opening) → Opened old before → Opened new (before ++ more)
    pub stands : (name : Text) (input : Input) → Stands new name input ↔ Stands old name input
    pub comes : (input : Input) → Comes new input ↔ Comes old input

  -- The run of a program on these words, with this status: it opened what they ask for, or nothing where memory ran out for the command line
  abbrev pub OpensFor : Tool → Result (List Text) PlanFault → F → F → ℕ → Type 0
  OpensFor tool words old new status = Opens (opened_for tool (request_had tool words)) old new ⊎ Opens [] old new × (status ≡ status_of OutOfMemory)

-- no call on the source followed one that failed or found the end, if it has a reader
abbrev pub IsClosable : {R : Type 0} → (R → SourceState) → Source R → Type 0
IsClosable state (source.Input r) = ¬ ((state r).stage ≡ Misused)
IsClosable state source.Text = ⊤
IsClosable state source.NotOpened = ⊤
