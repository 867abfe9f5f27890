-- The command lines of the programs, as they are declared for `clap`, and what their words mean.
use Rattle.std.specs.Prelude.{ℕ, Bool, true, false, not, List, [], Option, Some, None, codes, if◌then◌else◌}
use Rattle.std.specs.Str.{bytes_eq}
use Rattle.std.specs.Option.{option_map_or}
use Rattle.clap.specs.Words.{App, Row, Rule, Text, Kinds, fault_of, first_of, matches_of, new_app, new_rule, with_rule}
use Rattle.clap.specs.declared.builder.ArgAction.TheVariants.{Set, SetTrue}
use Rattle.ltl_spec.specs.Construction.Translation.{Options}
use Rattle.ltl_spec.specs.Tools.Refusal.{Tool, Translator, Checker, Evaluator}
use Rattle.ltl_spec.specs.Tools.Outcome.{FormulaWord, Given, File}
use Rattle.ltl_spec.specs.Tools.Programs.{Layout, layout_of, TranslatorPlan, CheckerPlan, EvaluatorPlan}
use Rattle.ltl_spec.specs.Tools.Run.{PlanOf}

-- a word that stands alone
abbrev pub flag_rule : Text → ℕ → Rule
flag_rule id short = record (new_rule id) { short = Some short; action = Some SetTrue }

-- a word with a value behind it
abbrev pub value_rule : Text → ℕ → Rule
value_rule id short = record (new_rule id) { short = Some short; action = Some Set }

-- `-l`, `-o`, `-p`, `-H`, `-G`, `-f formula` and `-F file`
abbrev pub translator_app : App
translator_app = with_rule (with_rule (with_rule (with_rule (with_rule (with_rule (with_rule (new_app (codes "ltl2ba"))
    (flag_rule (codes "l") 108)) (flag_rule (codes "o") 111)) (flag_rule (codes "p") 112)) (flag_rule (codes "H") 72)) (flag_rule (codes "G") 71))
    (value_rule (codes "f") 102)) (value_rule (codes "F") 70)

-- `-f formula`, `-F file` and `-A file`
abbrev pub checker_app : App
checker_app = with_rule (with_rule (with_rule (new_app (codes "ltlcheck")) (value_rule (codes "f") 102)) (value_rule (codes "F") 70)) (value_rule (codes "A") 65)

-- `-f formula`, `-F file` and `-w lasso`
abbrev pub evaluator_app : App
evaluator_app = with_rule (with_rule (with_rule (new_app (codes "ltleval")) (value_rule (codes "f") 102)) (value_rule (codes "F") 70)) (value_rule (codes "w") 119)

abbrev pub app_for : Tool → App
app_for Translator = translator_app
app_for Checker = checker_app
app_for Evaluator = evaluator_app

-- the flag was given
abbrev pub has_flag : Text → List Row → Bool
has_flag id rows = option_map_or (λ t. bytes_eq t (codes "true")) (first_of id rows) false

-- what the words of any of the programs ask for
pub record Request : Type 0 where
  pub formula : FormulaWord
  pub automaton : Option Text
  pub word : Option Text
  pub rewrite : Bool
  pub options : Options
  pub layout : Layout

-- exactly one of `-f` and `-F`
abbrev pub formula_among : Option Text → Option Text → Option FormulaWord
formula_among (Some text) None = Some (Given text)
formula_among None (Some path) = Some (File path)
formula_among _ _ = None

-- the evaluator has to have a word
abbrev pub lacks_word : Tool → Option Text → Bool
lacks_word Evaluator None = true
lacks_word _ _ = false

abbrev pub request_with : List Row → FormulaWord → Layout → Request
request_with rows formula layout = record {
  formula = formula;
  automaton = first_of (codes "A") rows;
  word = first_of (codes "w") rows;
  rewrite = not (has_flag (codes "l") rows);
  options = record { keep_implied = has_flag (codes "o") rows; keep_equal = has_flag (codes "p") rows };
  layout = layout;
}

-- there is a formula, and at most one layout is asked for; a program with no word for layouts has none of these
abbrev pub request_for : Tool → List Row → Option FormulaWord → Option Layout → Option Request
request_for tool rows None layout = None
request_for tool rows (Some formula) None = None
request_for tool rows (Some formula) (Some layout) = if lacks_word tool (first_of (codes "w") rows) then None else Some (request_with rows formula layout)

-- the layout that `-H` and `-G` ask for
abbrev pub layout_among : List Row → Option Layout
layout_among rows = layout_of (has_flag (codes "H") rows) (has_flag (codes "G") rows)

abbrev pub request_of_rows : Tool → List Row → Option Request
request_of_rows tool rows = request_for tool rows (formula_among (first_of (codes "f") rows) (first_of (codes "F") rows)) (layout_among rows)

abbrev pub request_if : Tool → Kinds → List Row → Option Request
request_if tool [] rows = request_of_rows tool rows
request_if tool _ rows = None

-- what the words ask of the program, of which the first is the program's name; none where they are usage
abbrev pub request_of : Tool → List Text → Option Request
request_of tool words = request_if tool (fault_of (app_for tool) words) (matches_of (app_for tool) words)

-- the same in the words of each program

abbrev pub translator_plan : Request → TranslatorPlan
translator_plan r = record { formula = r.formula; rewrite = r.rewrite; options = r.options; layout = r.layout }

abbrev pub checker_plan : Request → CheckerPlan
checker_plan r = record { formula = r.formula; automaton = r.automaton }

-- none where there is no word
abbrev pub evaluator_plan : Request → Option EvaluatorPlan
evaluator_plan r = option_map_or (λ w. Some (record { formula = r.formula; word = w })) r.word None

abbrev pub plan_of : (tool : Tool) → Option Request → Option (PlanOf tool)
plan_of tool None = None
plan_of Translator (Some r) = Some (translator_plan r)
plan_of Checker (Some r) = Some (checker_plan r)
plan_of Evaluator (Some r) = evaluator_plan r
