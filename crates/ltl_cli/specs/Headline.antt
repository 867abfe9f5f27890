-- What a program may show for its command line, its files and its standard input: the promise of `run`.
use Rattle.std.specs.Prelude.{List, [], ◌∷◌, ◌≡◌, ◌⊎◌, Option, Some, None, Result, Ok, Err, ⊤}
use Rattle.clap.specs.Words.{Text}
use Rattle.ltl_spec.specs.Hoa.HoaReading.{stated_form}
use Rattle.ltl_spec.specs.Tools.Limits.{stated_limits}
use Rattle.ltl_spec.specs.Tools.Refusal.{Tool, Checker}
use Rattle.ltl_spec.specs.Tools.Outcome.{FormulaWord, Given, File, Input, IsShortOfMemory, Seen}
use Rattle.ltl_spec.specs.Tools.Run.{MayShow}
use Rattle.ltl_streams.specs.Streams.{SourceState}
use Rattle.ltl_words.specs.declared.request.Plan.{Plan}
use Rattle.ltl_words.specs.declared.request.PlanFault.{PlanFault}
use Rattle.ltl_words.specs.declared.request.PlanFault.TheVariants as fault
use Rattle.ltl_cli.specs.declared.source.Source.{Source}
use Rattle.ltl_cli.specs.declared.source.Source.TheVariants as source
use Rattle.ltl_words.specs.Words.{Request, plan_of, request_of}
use Rattle.ltl_words.specs.Plans.{Plans, request_in}
use Rattle.ltl_cli.specs.Inputs.{IsFileOf}
use Rattle.ltl_cli.specs.Openings.{Opening, StandardInput, formula_opened}
use Rattle.ltl_cli.specs.Runs.{ToolRun}

-- the result with its value turned into another
abbrev pub map_ok : {A B E : Type 0} → (A → B) → Result A E → Result B E
map_ok f (Ok a) = Ok (f a)
map_ok f (Err e) = Err e

-- the name of the formula's file, if the command line has one
abbrev pub file_named : FormulaWord → Option Text
file_named (Given text) = None
file_named (File name) = Some name

-- In the following, `Stands` says which inputs the file with a name may give, and `Comes` which inputs the standard input may give

-- the file with this name may give the input; if there is no name, the standard input may
abbrev pub IsBehind : (Text → Input → Type 0) → (Input → Type 0) → Option Text → Input → Type 0
IsBehind Stands Comes None input = Comes input
IsBehind Stands Comes (Some name) input = Stands name input

-- The inputs that the program reads for its request: only the checker reads an automaton. A formula that stands in the command line comes from no file
abbrev pub AreBehind : (Text → Input → Type 0) → (Input → Type 0) → Tool → Option Request → Input → Input → Type 0
AreBehind Stands Comes tool None input file = ⊤
AreBehind Stands Comes Checker (Some r) input file = IsBehind Stands (λ _. ⊤) (file_named r.formula) input × IsBehind Stands Comes r.automaton file
AreBehind Stands Comes tool (Some r) input file = IsBehind Stands (λ _. ⊤) (file_named r.formula) input

module _ (Stands : Text → Input → Type 0) (Comes : Input → Type 0) (tool : Tool) where
  -- the request decides the right answers and their meaning, for some inputs that the named files may give; or memory ran out
  abbrev pub RequestMayShow : Option Request → Seen → Type 0
  RequestMayShow r seen = IsShortOfMemory stated_limits tool seen
      ⊎ ((input : Input) × (file : Input) × AreBehind Stands Comes tool r input file × MayShow stated_limits stated_form tool (plan_of tool r) input file seen)

  -- The words decide the request. If they can't be had, that is a usage error, or lack of memory
  abbrev pub WordsMayShow : Result (List Text) PlanFault → Seen → Type 0
  WordsMayShow (Ok words) seen = RequestMayShow (request_of tool words) seen
  WordsMayShow (Err fault.Usage) seen = RequestMayShow None seen
  WordsMayShow (Err fault.OutOfMemory) seen = IsShortOfMemory stated_limits tool seen

-- ---- on the way there

-- the plan is that of the command line, or there is no command line
abbrev pub PlansFor : Tool → Result (List Text) PlanFault → Result Plan PlanFault → Type 0
PlansFor tool (Ok words) plan = Plans tool words plan
PlansFor tool (Err e) plan = plan ≡ Err e

abbrev pub request_planned : Result Plan PlanFault → Option Request
request_planned (Ok p) = Some (request_in p)
request_planned (Err e) = None

-- the same for a plan
abbrev pub PlanMayShow : (Text → Input → Type 0) → (Input → Type 0) → Tool → Result Plan PlanFault → Seen → Type 0
PlanMayShow Stands Comes tool plan seen = (input : Input) × (file : Input) × AreBehind Stands Comes tool (request_planned plan) input file × ToolRun tool plan input file seen

-- the names of the files that the request has
abbrev pub formula_file : Option Request → Option Text
formula_file (Some r) = file_named r.formula
formula_file None = None

abbrev pub automaton_file : Option Request → Option Text
automaton_file (Some r) = r.automaton
automaton_file None = None

-- what of them is opened, by itself

abbrev pub file_asked : Option Request → List Opening
file_asked (Some r) = formula_opened r.formula
file_asked None = []

abbrev pub input_asked : Option Request → List Opening
input_asked (Some r) = StandardInput ∷ []
input_asked None = []

-- the source is that of the file, or `Text` if there is none
abbrev pub IsSourceOf : {R : Type 0} → (R → SourceState) → (Text → Input → Type 0) → Option Text → Source R → Type 0
IsSourceOf state Stands None s = s ≡ source.Text
IsSourceOf state Stands (Some name) s = IsFileOf state (Stands name) s

-- the source is the standard input, or `Text` if there is no request
abbrev pub IsInputFor : {R : Type 0} → (R → SourceState) → (Input → Type 0) → Option Request → Source R → Type 0
IsInputFor state Comes (Some r) s = IsFileOf state Comes s
IsInputFor state Comes None s = s ≡ source.Text
