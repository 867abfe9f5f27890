-- The steps of the evaluator before it prints, as the definitions have them.
use Rattle.std.specs.Prelude.{Bool, List, ℕ, Result}
use Rattle.ltl_spec.specs.Tools.Limits.{stated_limits}
use Rattle.ltl_spec.specs.Tools.Refusal as spec
use Rattle.ltl_spec.specs.Tools.Outcome.{Input}
use Rattle.ltl_spec.specs.Tools.Programs.{EvaluatorPlan, EvaluatorFinds}
use Rattle.ltl_cli.specs.declared.refusal.Refusal.{Refusal}
use Rattle.ltl_words.specs.declared.request.Plan.{Plan}
use Rattle.ltl_words.specs.Plans.{formula_word}
use Rattle.ltl_cli.specs.Inputs.{IsFound}

-- the plan of the definitions, with the text of a word
abbrev pub with_word : Plan → List ℕ → EvaluatorPlan
with_word p text = record { formula = formula_word p.formula; word = text }

-- what the definitions say of the plan, the word and the input
abbrev pub FindsTruth : Plan → List ℕ → Input → Result Bool spec.Refusal → Type 0
FindsTruth p text = EvaluatorFinds stated_limits (with_word p text)

abbrev pub IsEvaluated : Plan → List ℕ → Input → Result Bool Refusal → Type 0
IsEvaluated p text input = IsFound (formula_word p.formula) input (FindsTruth p text input) (λ b. b)
