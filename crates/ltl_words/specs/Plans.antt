-- A plan as the request of its command line.
use Rattle.std.specs.Prelude.{◌≡◌, Bool, true, false, Option, Some, None, List, [], Result, Ok, Err, MatchResult, option_map}
use Rattle.ltl_spec.specs.Tools.Refusal.{Tool}
use Rattle.ltl_spec.specs.Tools.Outcome as spec
use Rattle.ltl_spec.specs.Tools.Programs.{Layout, Claim, Hoa, Generalized}
use Rattle.ltl_spec.specs.Tools.Run.{PlanOf}
use Rattle.clap.specs.Words.{Text, fault_of, found_of, matches_of, rows_of}
use Rattle.clap.specs.declared.parser.matches.ArgMatches.{ArgMatches}
use Rattle.ltl_words.specs.Words.{Request, app_for, plan_of, request_of}
use Rattle.ltl_words.specs.declared.layout.Layout as code
use Rattle.ltl_words.specs.declared.layout.Layout.TheVariants as layout
use Rattle.ltl_words.specs.declared.request.Plan.{Plan}
use Rattle.ltl_words.specs.declared.request.FormulaWord.{FormulaWord}
use Rattle.ltl_words.specs.declared.request.FormulaWord.TheVariants as word
use Rattle.ltl_words.specs.declared.request.PlanFault.{PlanFault}
use Rattle.ltl_words.specs.declared.request.PlanFault.TheVariants.{Usage, OutOfMemory}

abbrev pub formula_word : FormulaWord → spec.FormulaWord
formula_word (word.Given text) = spec.Given text.now
formula_word (word.File name) = spec.File name.now

abbrev pub layout_in : code.Layout → Layout
layout_in layout.Claim = Claim
layout_in layout.Hoa = Hoa
layout_in layout.Generalized = Generalized

-- the layout is this one

abbrev pub is_hoa : Layout → Bool
is_hoa Hoa = true
is_hoa _ = false

abbrev pub is_generalized : Layout → Bool
is_generalized Generalized = true
is_generalized _ = false

abbrev pub request_in : Plan → Request
request_in p = record {
  formula = formula_word p.formula;
  automaton = option_map (λ s. s.now) p.automaton;
  word = option_map (λ s. s.now) p.word;
  rewrite = p.rewrite;
  options = p.options;
  layout = layout_in p.layout;
}

-- what was planned for the program; nothing where its words are usage, or memory was refused
abbrev pub planned : (tool : Tool) → Result Plan PlanFault → Option (PlanOf tool)
planned tool (Ok p) = plan_of tool (Some (request_in p))
planned tool (Err e) = None

-- usage only where the words mean nothing; memory may be refused for any words
abbrev pub RefusesWords : Tool → List Text → PlanFault → Type 0
RefusesWords tool words Usage = request_of tool words ≡ None
RefusesWords tool words OutOfMemory = Unit {0}

abbrev pub Plans : Tool → List Text → Result Plan PlanFault → Type 0
Plans tool words r = MatchResult r (λ p. request_of tool words ≡ Some (request_in p)) (RefusesWords tool words)

-- the matches are those that the library gives the words, or the words are refused
pub record IsMatched (tool : Tool) (words : List Text) (m : ArgMatches) : Type 0 where
  pub passes : fault_of (app_for tool) words ≡ []
  pub rows : rows_of (found_of m) ≡ matches_of (app_for tool) words

abbrev pub Matches : Tool → List Text → Result ArgMatches PlanFault → Type 0
Matches tool words r = MatchResult r (IsMatched tool words) (RefusesWords tool words)
