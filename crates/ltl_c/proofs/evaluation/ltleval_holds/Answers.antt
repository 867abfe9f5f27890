use Rattle.std.proofs.Common.{◌∙◌}
use Rattle.ltl_c.specs.Calls.{evaluator_asked}
use Rattle.ltl_c.proofs.CallLaws.{false_ends, no_truth_ends, true_ends}
use Rattle.ltl_c.proofs.evaluation.ltleval_holds.Goals as goal

pub returns-then-found-clause-shown : goal.returns-then-found-clause-shown
returns-then-found-clause-shown c = true_ends (evaluator_asked c.args.formula.now c.args.word.now) c.no_refusal.result c.in-Ok.found c.in-Ok.ensures c.no_refusal.ensures c.if-found.true

pub returns-else-found-clause-shown : goal.returns-else-found-clause-shown
returns-else-found-clause-shown c = false_ends (evaluator_asked c.args.formula.now c.args.word.now) c.no_refusal.result c.in-Ok.found c.in-Ok.ensures c.no_refusal.ensures c.if-found.false

pub returns-in-Err-clause-shown : goal.returns-in-Err-clause-shown
returns-in-Err-clause-shown c =
    no_truth_ends (evaluator_asked c.args.formula.now c.args.word.now) c.code_of.result c.in-Err.reason c.in-Err.ensures c.code_of.ensures c.number.result (c.number.ensures ∙ c.status.ensures)
