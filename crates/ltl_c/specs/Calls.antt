-- What a call from C may return: what a run of the program may show for the same texts.
use Rattle.std.specs.Prelude.{◌≡◌, ◌⊎◌, ◌<◌, ◌++◌, ℕ, not, List, [], ◌∷◌, length, drop, slice_get, slice_index_or, Option, Some, None, Result, Err, codes, option_map}
use Rattle.std.specs.Option.{option_map_or}
use Rattle.ltl_spec.specs.Automata.ClaimText.{line}
use Rattle.ltl_spec.specs.Hoa.HoaReading.{stated_form}
use Rattle.ltl_spec.specs.Tools.Limits.{stated_limits}
use Rattle.ltl_spec.specs.Tools.Refusal.{Refusal, Tool, Usage, message}
use Rattle.ltl_spec.specs.Tools.Stage.{Open}
use Rattle.ltl_spec.specs.Tools.Outcome.{Given, Input, NotOpened, Seen, stage_behind}
use Rattle.ltl_spec.specs.Tools.Programs.{CheckerPlan, EvaluatorPlan, Layout, Claim, Hoa, Generalized, TranslatorPlan, TranslatorPrints}
use Rattle.ltl_spec.specs.Tools.Run.{MayShow, PlanOf}
use Rattle.ltl_c.specs.declared.refusal_code.RefusalCode.{RefusalCode}
use Rattle.ltl_c.specs.declared.text_options.TextOptions.{TextOptions}
use Rattle.ltl_c.specs.Codes.{code_for}

-- ---- the plans of the programs

-- the layouts by number
abbrev pub layout_numbered : ℕ → Option Layout
layout_numbered n = slice_get (Claim ∷ Hoa ∷ Generalized ∷ []) n

abbrev pub plan_with : List ℕ → TextOptions → Layout → TranslatorPlan
plan_with text o layout = record {
  formula = Given text;
  rewrite = not o.no_rewrite;
  options = record { keep_implied = o.keep_implied; keep_equal = o.keep_equal };
  layout = layout;
}

-- the plan of the translator for these options; none if no layout has this number
abbrev pub translator_asked : List ℕ → TextOptions → Option TranslatorPlan
translator_asked text o = option_map (plan_with text o) (layout_numbered o.layout)

abbrev pub evaluator_asked : List ℕ → List ℕ → EvaluatorPlan
evaluator_asked text word = record { formula = Given text; word = word }

-- the automaton's text comes from the standard input
abbrev pub checker_asked : List ℕ → CheckerPlan
checker_asked text = record { formula = Given text; automaton = None }

-- ---- what a call returns

-- the line that the program prints for the refusal; empty if there is none
abbrev pub told : Tool → Option Refusal → List ℕ
told tool reason = option_map_or (message stated_limits tool) reason []

-- a run that ended with this status, and in which no write failed
abbrev pub run_with : ℕ → List ℕ → List ℕ → Seen
run_with status output message = record { output = output; output_stage = stage_behind status; message = message; message_stage = Open; status = status }

-- the program may show this for its plan, with these bytes in its input
abbrev pub MayEnd : (tool : Tool) → Option (PlanOf tool) → Input → ℕ → List ℕ → List ℕ → Type 0
MayEnd tool plan file status output message = MayShow stated_limits stated_form tool plan NotOpened file (run_with status output message)

-- the status of a call whose buffer is too short
abbrev pub too_short : ℕ
too_short = 6

-- The text is at the beginning of the buffer, and the call returns the run's status; or the buffer is too short for it, and is unchanged. The count is the
-- length of the text in both cases
abbrev pub Delivers : ℕ → List ℕ → List ℕ → List ℕ → ℕ → ℕ → Type 0
Delivers ended text old new count status = (count ≡ length text) × ((status ≡ ended) × (new ≡ text ++ drop (length text) old)
    ⊎ (status ≡ too_short) × (length old < length text) × (new ≡ old))

-- A call with a buffer: the program may end with this status, this text in its output, and the line for this refusal. The text is delivered, and the code
-- is that of the refusal, or of none
pub record HandsOver (tool : Tool) (plan : Option (PlanOf tool)) (file : Input) (printed : ℕ → List ℕ → List ℕ) (code : RefusalCode) (old new : List ℕ) (count status : ℕ) : Type 0 where
  pub text : List ℕ
  pub ended : ℕ
  pub reason : Option Refusal
  pub shown : MayEnd tool plan file ended (printed ended text) (told tool reason)
  pub coded : code ≡ code_for reason
  pub delivered : Delivers ended text old new count status

-- A call without a buffer: the program may end with this status, and the code is that of the refusal which it reports, or of none
pub record Ends (tool : Tool) (plan : Option (PlanOf tool)) (file : Input) (printed : ℕ → List ℕ) (code : RefusalCode) (status : ℕ) : Type 0 where
  pub reason : Option Refusal
  pub shown : MayEnd tool plan file status (printed status) (told tool reason)
  pub coded : code ≡ code_for reason

-- ---- the outputs of the programs, by status and text

abbrev pub text_alone : ℕ → List ℕ → List ℕ
text_alone status text = text

abbrev pub truth_line : ℕ → List ℕ
truth_line status = slice_index_or (line (codes "true") ∷ line (codes "false") ∷ []) status []

-- with the verdict `contained` there is no text
abbrev pub verdict_lines : ℕ → List ℕ → List ℕ
verdict_lines status text = slice_index_or ((text ++ line (codes "contained")) ∷ (line (codes "violated") ++ line text) ∷ []) status text

-- ---- on the way there

-- the text for a plan of the translator; a usage error if there is no plan
abbrev pub PrintsAsked : Option TranslatorPlan → Result (List ℕ) Refusal → Type 0
PrintsAsked None r = r ≡ Err Usage
PrintsAsked (Some p) r = TranslatorPrints stated_limits p NotOpened r
