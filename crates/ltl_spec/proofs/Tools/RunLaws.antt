-- What a run may show implies the meaning of its answer.
use Rattle.std.proofs.Common.{◌^◌, ◌<◌, Option}
use Rattle.ltl_spec.specs.Hoa.HoaReading.{AcceptanceForm}
use Rattle.ltl_spec.specs.Tools.Limits.{Limits}
use Rattle.ltl_spec.specs.Tools.Refusal.{Tool, Translator, Checker, Evaluator}
use Rattle.ltl_spec.specs.Tools.Outcome.{Input, IsPromised, Seen}
use Rattle.ltl_spec.specs.Tools.Run.{MayShow, PlanOf, ToolAnswers, ToolTells}
use Rattle.ltl_spec.proofs.Tools.CauseLaws.{promised_cause}
use Rattle.ltl_spec.proofs.Tools.ModelLaws.{promised_models}
use Rattle.ltl_spec.proofs.Tools.TruthLaws.{promised_truth}
use Rattle.ltl_spec.proofs.Tools.VerdictLaws.{promised_verdict}

module _ (l : Limits) (form : AcceptanceForm) (few : l.states < 2 ^ 64) where
  promised_tells : (tool : Tool) (plan : Option (PlanOf tool)) (input file : Input) (seen : Seen) → IsPromised l tool (ToolAnswers l form tool plan input file) seen → ToolTells l form tool plan input file seen
  promised_tells Translator plan input file seen h = promised_models l few plan input seen h
  promised_tells Checker plan input file seen h = promised_verdict l form plan input file seen h
  promised_tells Evaluator plan input file seen h = promised_truth l plan input seen h

  -- so the promise alone says what a run may show
  pub promised_shown : (tool : Tool) (plan : Option (PlanOf tool)) (input file : Input) (seen : Seen) → IsPromised l tool (ToolAnswers l form tool plan input file) seen → MayShow l form tool plan input file seen
  promised_shown tool plan input file seen h = record {
    promised = h;
    tells = promised_tells tool plan input file seen h;
    cause = promised_cause l form input file tool plan seen h;
  }
