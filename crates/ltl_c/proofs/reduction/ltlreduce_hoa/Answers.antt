use Rattle.std.proofs.Common.{◌∙◌, List, ℕ, subst}
use Rattle.ltl_c.specs.Calls.{Delivers}
use Rattle.ltl_c.proofs.ReductionLaws.{reduction_handed, refusal_handed}
use Rattle.ltl_c.proofs.reduction.ltlreduce_hoa.Goals as goal

pub returns-in-Ok : goal.returns-in-Ok
returns-in-Ok c =
    reduction_handed c.args.automaton.now c.no_refusal.result c.args.buffer.now c.deliver.new.buffer c.deliver.new.count c.deliver.result c.in-Ok.text.items c.in-Ok.ensures c.no_refusal.ensures
    (subst (λ (t : List ℕ). Delivers 0 t c.args.buffer.now c.deliver.new.buffer c.deliver.new.count c.deliver.result) c.as_slice.ensures.value c.deliver.ensures)

pub returns-in-Err : goal.returns-in-Err
returns-in-Err c =
    refusal_handed c.args.automaton.now c.code_of.result c.args.buffer.now c.deliver-in-Err.new.buffer c.deliver-in-Err.new.count c.deliver-in-Err.result c.in-Err.reason c.in-Err.ensures c.code_of.ensures c.number.result
    (c.number.ensures ∙ c.status.ensures) c.deliver-in-Err.ensures
