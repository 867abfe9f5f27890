-- The steps of the checker before it prints, as the definitions have them.
use Rattle.std.specs.Prelude.{◌⊎◌, true, Some, Result, Ok, MatchResult}
use Rattle.ltl_spec.specs.Formulas.Formula.{Reading}
use Rattle.ltl_spec.specs.NormalForms.NormalForm.{core}
use Rattle.ltl_spec.specs.Automata.Automaton.{Automaton}
use Rattle.ltl_spec.specs.Hoa.HoaReading.{MarkedAutomaton, stated_form}
use Rattle.ltl_spec.specs.Checking.Check.{Verdict, IsViolation}
use Rattle.ltl_spec.specs.Tools.Limits.{stated_limits}
use Rattle.ltl_spec.specs.Tools.Refusal as spec
use Rattle.ltl_spec.specs.Tools.Outcome.{Answer, Input, IsNeverShort, Then, input_of}
use Rattle.ltl_spec.specs.Tools.Programs.{CheckerFinds, InputReads, Judges, KeepsRows, Translates, plain_options, verdict_answer}
use Rattle.ltl_spec.specs.Tools.Run.{AutomatonReads}
use Rattle.ltl_check.specs.declared.verdict.Outcome.{Outcome}
use Rattle.ltl_check.specs.VerdictView.{verdict_of}
use Rattle.ltl_cli.specs.declared.refusal.Refusal.{Refusal}
use Rattle.ltl_words.specs.declared.request.Plan.{Plan}
use Rattle.ltl_words.specs.Words.{checker_plan}
use Rattle.ltl_words.specs.Plans.{formula_word, request_in}
use Rattle.ltl_cli.specs.Inputs.{IsFailed, IsFoundUnless, RefusesUnless}

-- the automaton that is checked
abbrev pub ReadsAutomaton : Input → Result MarkedAutomaton spec.Refusal → Type 0
ReadsAutomaton = AutomatonReads stated_limits stated_form

-- the verdict on an automaton and a formula, by the automaton of the formula's violations
abbrev pub JudgesFormula : MarkedAutomaton → Reading → Automaton → Result Verdict spec.Refusal → Type 0
JudgesFormula A R B = Judges stated_limits A R.names B (IsViolation A R)

-- the answer for a verdict
abbrev pub answer_for : {A : Type 0} → Outcome A → Answer
answer_for outcome = verdict_answer stated_limits (verdict_of outcome)

-- the automaton of the formula's violations
abbrev pub Negates : Reading → Result Automaton spec.Refusal → Type 0
Negates R = Then (KeepsRows stated_limits (core R.formula true true)) (λ N. Translates stated_limits N plain_options)

-- what the definitions say of the plan and the inputs
abbrev pub FindsVerdict : Plan → Input → Input → Result Verdict spec.Refusal → Type 0
FindsVerdict p = CheckerFinds stated_limits stated_form (checker_plan (request_in p))

-- where lack of memory is never reported
abbrev pub CheckNeverShort : Plan → Input → Input → Type 0
CheckNeverShort p input file = IsNeverShort stated_limits.formula_bytes (Some (formula_word p.formula)) input ⊎ IsFailed file

abbrev pub RefusesCheck : Plan → Input → Input → Refusal → Type 0
RefusesCheck p input file = RefusesUnless (CheckNeverShort p input file) (FindsVerdict p input file)

-- the formula and the automaton of its violations, or a refusal, whatever the automaton's input is: no read of it failed
abbrev pub IsNegated : {T : Type 0} → Plan → Input → (T → Reading) → (T → Automaton) → Result T Refusal → Type 0
IsNegated p input formula violations r =
    MatchResult r (λ t. InputReads stated_limits (input_of (formula_word p.formula) input) (Ok (formula t)) × Negates (formula t) (Ok (violations t)))
    (λ e. (file : Input) → ¬ (IsFailed file) → RefusesCheck p input file e)

abbrev pub IsChecked : {T : Type 0} → Plan → Input → Input → (T → Verdict) → Result T Refusal → Type 0
IsChecked p input file = IsFoundUnless (CheckNeverShort p input file) (FindsVerdict p input file)
