-- From a run of what was planned to what the words may show.
use Rattle.std.proofs.Common.{◌≡◌, sym, subst, refl, ℕ, inl, inr, List, Option, Some, None}
use Rattle.std.specs.Prelude.{Result, Ok, Err, ⊤}
use Rattle.clap.specs.Words.{Text}
use Rattle.ltl_spec.specs.Hoa.HoaReading.{stated_form}
use Rattle.ltl_spec.specs.Tools.Limits.{stated_limits}
use Rattle.ltl_spec.specs.Tools.Refusal.{Tool, Translator, Checker, Evaluator}
use Rattle.ltl_spec.specs.Tools.Outcome.{Input, NotOpened, Seen}
use Rattle.ltl_spec.specs.Tools.Run.{MayShow}
use Rattle.ltl_streams.specs.Streams.{SinkState, SourceState}
use Rattle.ltl_words.specs.declared.request.Plan.{Plan}
use Rattle.ltl_words.specs.declared.request.PlanFault.{PlanFault}
use Rattle.ltl_words.specs.declared.request.PlanFault.TheVariants as fault
use Rattle.ltl_cli.specs.declared.source.Source.{Source}
use Rattle.ltl_cli.specs.declared.source.Source.TheVariants as source
use Rattle.ltl_words.specs.Words.{Request, plan_of}
use Rattle.ltl_words.specs.Plans.{planned}
use Rattle.ltl_cli.specs.Inputs.{IsFileOf, IsOpen, WasInput}
use Rattle.ltl_cli.specs.Headline.{AreBehind, IsBehind, IsInputFor, IsSourceOf, PlanMayShow, PlansFor, WordsMayShow, automaton_file, formula_file, request_planned}
use Rattle.ltl_cli.specs.Openings.{Opening, Opens, OpensFor, opened_for}
use Rattle.ltl_cli.specs.Runs.{Shows, ToolRun}
use Rattle.ltl_cli.proofs.RunLaws.{shows_more}

-- ---- what a source turned out to be stands behind its name
module _ {R : Type 0} (state : R → SourceState) where
  pub file_behind : (May : Input → Type 0) (most : ℕ) (old new : Source R) (input : Input) → IsFileOf state May old → WasInput most state old new input → May input
  file_behind May most source.Text new input f w = absurd f
  file_behind May most (source.Input r) (source.Input s) input f w = f.1 most s input w
  file_behind May most (source.Input r) source.Text input f w = absurd w
  file_behind May most (source.Input r) source.NotOpened input f w = absurd w
  file_behind May most source.NotOpened source.NotOpened input f w = subst May (sym w) f
  file_behind May most source.NotOpened source.Text input f w = absurd w
  file_behind May most source.NotOpened (source.Input s) input f w = absurd w

  pub file_open : (May : Input → Type 0) (s : Source R) → IsFileOf state May s → IsOpen state s
  file_open May source.Text f = tt
  file_open May (source.Input r) f = f.0
  file_open May source.NotOpened f = tt

  module _ (Stands : Text → Input → Type 0) where
    pub source_behind : (name : Option Text) (most : ℕ) (old new : Source R) (input : Input) → IsSourceOf state Stands name old → WasInput most state old new input → IsBehind Stands (λ _. ⊤) name input
    source_behind None most old new input f w = tt
    source_behind (Some name) most old new input f w = file_behind (Stands name) most old new input f w

    pub source_open : (name : Option Text) (s : Source R) → IsSourceOf state Stands name s → IsOpen state s
    source_open None s f = subst (IsOpen state) (sym f) tt
    source_open (Some name) s f = file_open (Stands name) s f

  pub given_open : (Comes : Input → Type 0) (request : Option Request) (s : Source R) → IsInputFor state Comes request s → IsOpen state s
  given_open Comes None s f = subst (IsOpen state) (sym f) tt
  given_open Comes (Some r) s f = file_open Comes s f

module _ (Stands : Text → Input → Type 0) (Comes : Input → Type 0) where
  -- ---- the automaton
  pub named_behind : (asked : Option Text) (name : Text) (file : Input) → Some name ≡ asked → Stands name file → IsBehind Stands Comes asked file
  named_behind asked name file e h = subst (λ (x : Option Text). IsBehind Stands Comes x file) e h

  pub comes_behind : (asked : Option Text) (file : Input) → None ≡ asked → Comes file → IsBehind Stands Comes asked file
  comes_behind asked file e h = subst (λ (x : Option Text). IsBehind Stands Comes x file) e h

  -- the same for a request, if there is one
  abbrev pub IsBehindAutomaton : Option Request → Input → Type 0
  IsBehindAutomaton None file = ⊤
  IsBehindAutomaton (Some r) file = IsBehind Stands Comes r.automaton file

  pub named_for : (request : Option Request) (name : Text) (file : Input) → Some name ≡ automaton_file request → Stands name file → IsBehindAutomaton request file
  named_for None name file e h = tt
  named_for (Some r) name file e h = named_behind r.automaton name file e h

  -- the standard input, before which the formula's file was opened
  pub given_for : {R : Type 0} (state : R → SourceState) (Later : Input → Type 0) → ((file : Input) → Later file → Comes file) → (request : Option Request) (most : ℕ) (old new : Source R) (file : Input)
      → None ≡ automaton_file request → IsInputFor state Later request old → WasInput most state old new file → IsBehindAutomaton request file
  given_for state Later same None most old new file e f w = tt
  given_for state Later same (Some r) most old new file e f w = comes_behind r.automaton file e (same file (file_behind state Later most old new file f w))

  -- ---- a run of a plan
  translator_behind : (plan : Result Plan PlanFault) (input file : Input) → IsBehind Stands (λ _. ⊤) (formula_file (request_planned plan)) input → AreBehind Stands Comes Translator (request_planned plan) input file
  translator_behind (Ok p) input file b = b
  translator_behind (Err e) input file b = tt

  evaluator_behind : (plan : Result Plan PlanFault) (input file : Input) → IsBehind Stands (λ _. ⊤) (formula_file (request_planned plan)) input → AreBehind Stands Comes Evaluator (request_planned plan) input file
  evaluator_behind (Ok p) input file b = b
  evaluator_behind (Err e) input file b = tt

  checker_behind : (plan : Result Plan PlanFault) (input file : Input) → IsBehind Stands (λ _. ⊤) (formula_file (request_planned plan)) input → IsBehindAutomaton (request_planned plan) file
      → AreBehind Stands Comes Checker (request_planned plan) input file
  checker_behind (Ok p) input file b c = (b, c)
  checker_behind (Err e) input file b c = tt

  module _ (plan : Result Plan PlanFault) (input : Input) where
    module _ {o n mo mn : SinkState} {status : ℕ} (b : IsBehind Stands (λ _. ⊤) (formula_file (request_planned plan)) input) where
      pub translator_planned : ((file : Input) → Shows (ToolRun Translator plan input file) o n mo mn status) → Shows (PlanMayShow Stands Comes Translator plan) o n mo mn status
      translator_planned h = shows_more (λ seen k. (input, NotOpened, translator_behind plan input NotOpened b, k)) (h NotOpened)

      pub evaluator_planned : ((file : Input) → Shows (ToolRun Evaluator plan input file) o n mo mn status) → Shows (PlanMayShow Stands Comes Evaluator plan) o n mo mn status
      evaluator_planned h = shows_more (λ seen k. (input, NotOpened, evaluator_behind plan input NotOpened b, k)) (h NotOpened)

      pub checker_planned : (file : Input) → IsBehindAutomaton (request_planned plan) file → Shows (ToolRun Checker plan input file) o n mo mn status
          → Shows (PlanMayShow Stands Comes Checker plan) o n mo mn status
      checker_planned file c h = shows_more (λ seen k. (input, file, checker_behind plan input file b c, k)) h

  -- ---- what was planned for the words is what they mean, or memory was refused
  module _ (tool : Tool) where
    plan_shows : (words : Result (List Text) PlanFault) (plan : Result Plan PlanFault) (seen : Seen) → PlansFor tool words plan → PlanMayShow Stands Comes tool plan seen → WordsMayShow Stands Comes tool words seen
    plan_shows (Ok words) (Ok p) seen e (input, file, b, h) = inr (
      input,
      file,
      subst (λ (r : Option Request). AreBehind Stands Comes tool r input file) (sym e) b,
      subst (λ (r : Option Request). MayShow stated_limits stated_form tool (plan_of tool r) input file seen) (sym e) h.shown,
    )
    plan_shows (Ok words) (Err fault.Usage) seen e (input, file, b, h) = inr (
      input,
      file,
      subst (λ (r : Option Request). AreBehind Stands Comes tool r input file) (sym e) b,
      subst (λ (r : Option Request). MayShow stated_limits stated_form tool (plan_of tool r) input file seen) (sym e) h.shown,
    )
    plan_shows (Ok words) (Err fault.OutOfMemory) seen e (input, file, b, h) = inl (h.short refl)
    plan_shows (Err fault.Usage) plan seen e (input, file, b, h) = inr (input, file, tt, subst (λ (x : Result Plan PlanFault). MayShow stated_limits stated_form tool (planned tool x) input file seen) e h.shown)
    plan_shows (Err fault.OutOfMemory) plan seen e (input, file, b, h) = h.short e

    pub words_show : (words : Result (List Text) PlanFault) (plan : Result Plan PlanFault) {o n mo mn : SinkState} {status : ℕ} → PlansFor tool words plan → Shows (PlanMayShow Stands Comes tool plan) o n mo mn status
        → Shows (WordsMayShow Stands Comes tool words) o n mo mn status
    words_show words plan e h = shows_more (λ seen k. plan_shows words plan seen e k) h

-- ---- what was opened for a plan is what the words ask for, unless memory was refused
module _ {F : Type 0} (Opened : F → List Opening → Type 0) (Stands : F → Text → Input → Type 0) (Comes : F → Input → Type 0) (tool : Tool) (old new : F) where
  pub words_open : (Stood : Text → Input → Type 0) (Came : Input → Type 0) (words : Result (List Text) PlanFault) (plan : Result Plan PlanFault) {o n mo mn : SinkState} {status : ℕ} → PlansFor tool words plan
      → Shows (PlanMayShow Stood Came tool plan) o n mo mn status → Opens Opened Stands Comes (opened_for tool (request_planned plan)) old new → OpensFor Opened Stands Comes tool words old new status
  words_open Stood Came (Ok words) (Ok p) e h k = inl (subst (λ (r : Option Request). Opens Opened Stands Comes (opened_for tool r) old new) (sym e) k)
  words_open Stood Came (Ok words) (Err fault.Usage) e h k = inl (subst (λ (r : Option Request). Opens Opened Stands Comes (opened_for tool r) old new) (sym e) k)
  words_open Stood Came (Ok words) (Err fault.OutOfMemory) e h k = inr (k, (h.promised.3.short refl).0)
  words_open Stood Came (Err f) plan e h k = inl (subst (λ (x : Result Plan PlanFault). Opens Opened Stands Comes (opened_for tool (request_planned x)) old new) e k)
