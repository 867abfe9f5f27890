use Rattle.std.proofs.Common.{◌∙◌, List, ℕ, subst}
use Rattle.ltl_cli.specs.Refusals.{refusal_of}
use Rattle.ltl_c.specs.Calls.{Delivers}
use Rattle.ltl_c.proofs.CallLaws.{refused_zero, verdict_handed, verdict_refused}
use Rattle.ltl_c.proofs.checking.ltlcheck_verdict.Goals as goal

pub returns-in-Ok-clause-shown : goal.returns-in-Ok-clause-shown
returns-in-Ok-clause-shown c =
    verdict_handed c.args.formula.now c.args.automaton.now c.no_refusal.result c.args.buffer.now c.deliver.new.buffer c.deliver.new.count c.deliver.result c.in-Ok.saying.contained c.in-Ok.saying.text.items c.in-Ok.ensures
    c.no_refusal.ensures c.status_for.result c.status_for.ensures
    (subst (λ (t : List ℕ). Delivers c.status_for.result t c.args.buffer.now c.deliver.new.buffer c.deliver.new.count c.deliver.result) c.as_slice.ensures.value c.deliver.ensures)

pub returns-in-Err-clause-shown : goal.returns-in-Err-clause-shown
returns-in-Err-clause-shown c =
    verdict_refused c.args.formula.now c.args.automaton.now c.code_of.result c.args.buffer.now c.deliver-in-Err.new.buffer c.deliver-in-Err.new.count c.deliver-in-Err.result c.in-Err.reason c.in-Err.ensures c.code_of.ensures
    c.number.result (c.number.ensures ∙ c.status.ensures) c.deliver-in-Err.ensures

pub returns-in-Err-clause-contained : goal.returns-in-Err-clause-contained
returns-in-Err-clause-contained c =
    refused_zero (refusal_of c.in-Err.reason) c.number.result c.args.buffer.now c.deliver-in-Err.new.buffer c.deliver-in-Err.new.count c.deliver-in-Err.result (c.number.ensures ∙ c.status.ensures) c.deliver-in-Err.ensures
