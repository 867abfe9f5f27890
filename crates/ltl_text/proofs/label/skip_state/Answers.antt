use Rattle.std.proofs.Common.{◌∙◌, arith, sym}
use Rattle.ltl_text.proofs.LabelLaws.{skip_is}
use Rattle.ltl_text.proofs.label.skip_state.Goals as goal

pub returns-then-is_skip_state : goal.returns-then-is_skip_state
returns-then-is_skip_state g c =
    sym (skip_is c.args.automaton.now c.loop-k.k (omega arith) c.loop-k.invariant (λ _. sym c.is_skip_state.ensures ∙ c.if-is_skip_state.true))

pub returns : goal.returns
returns g c = sym (skip_is c.args.automaton.now c.len.result (omega arith) (λ j lt. c.loop-k.invariant j (omega arith)) (λ lt. absurd (omega arith)))
