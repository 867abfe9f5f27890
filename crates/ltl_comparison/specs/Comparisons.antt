-- The steps before the answer, as the definitions have them.
use Rattle.std.specs.Prelude.{◌≡◌, ◌⊎◌, Result, Ok, Err, MatchResult}
use Rattle.ltl_spec.specs.Checking.Comparison.{Comparison}
use Rattle.ltl_spec.specs.Formulas.Formula.{Reading}
use Rattle.ltl_spec.specs.Tools.Comparer.{ComparerAnswers, ComparerNeverShort, ComparerPlan, comparer_refused, comparison_answer}
use Rattle.ltl_spec.specs.Tools.Comparison.{Compares}
use Rattle.ltl_spec.specs.Tools.Limits.{stated_limits}
use Rattle.ltl_spec.specs.Tools.Outcome.{FormulaWord, Input, input_of}
use Rattle.ltl_spec.specs.Tools.Programs.{InputReads}
use Rattle.ltl_syntax.specs.FormulaView.{FormulaView, reading_of}
use Rattle.ltl_cli.specs.Inputs.{RefusesInput}
use Rattle.ltl_cli.specs.Refusals.{refusal_of}
use Rattle.ltl_cli.specs.declared.refusal.Refusal.TheVariants.{OutOfMemory}
use Rattle.ltl_comparison.specs.Refusals.{subject_in}
use Rattle.ltl_comparison.specs.declared.refusal.Refused.{Refused}
use Rattle.ltl_comparison.specs.declared.refusal.Subject.{Subject}
use Rattle.ltl_comparison.specs.declared.refusal.Subject.TheVariants.{Other}

-- the input reads as this formula, or is refused for this reason
abbrev pub IsReadAs : Subject → FormulaWord → Input → Result FormulaView Refused → Type 0
IsReadAs subject word input r =
    MatchResult r (λ f. InputReads stated_limits (input_of word input) (Ok (reading_of f))) (λ e. (e.subject ≡ subject) × RefusesInput word input e.refusal)

-- two formulas compare like this, or are refused for this reason
abbrev pub IsRelated : {T : Type 0} → Reading → Reading → (T → Comparison) → Result T Refused → Type 0
IsRelated R S view r =
    MatchResult r (λ c. Compares stated_limits R S (Ok (view c)))
    (λ e. (e.subject ≡ Other) × ((e.refusal ≡ OutOfMemory) ⊎ Compares stated_limits R S (Err (refusal_of e.refusal))))

-- the definitions refuse the plan for this reason, or memory ran out where that may be reported
abbrev pub RefusesPlan : ComparerPlan → Input → Input → Refused → Type 0
RefusesPlan p first second e =
    (e.refusal ≡ OutOfMemory) × ¬ (ComparerNeverShort stated_limits p first second)
    ⊎ ComparerAnswers stated_limits p first second (comparer_refused stated_limits (subject_in e.subject) (refusal_of e.refusal))

-- both inputs are read and compare like this, or are refused
abbrev pub IsCompared : {T : Type 0} → ComparerPlan → Input → Input → (T → Comparison) → Result T Refused → Type 0
IsCompared p first second view r = MatchResult r (λ c. ComparerAnswers stated_limits p first second (comparison_answer (view c))) (RefusesPlan p first second)
