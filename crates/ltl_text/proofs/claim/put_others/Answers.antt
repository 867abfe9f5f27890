use Rattle.std.proofs.Common.{◌∙◌, arith, sym, ◌<◌, length}
use Rattle.ltl_streams.proofs.PrintLaws.{lacks_all, lacks_end, lacks_step, prints_nothing}
use Rattle.ltl_text.proofs.BlockLaws.{others_begin, others_end, others_put, others_skip}
use Rattle.ltl_text.proofs.claim.put_others.Goals as goal

pub loop-k-init : goal.loop-k-init
loop-k-init g c = lacks_step (lacks_all _ _) _ (others_begin c.args.automaton.now c.args.texts.now) (prints_nothing _)

pub loop-k-preserved-then-k-skip : goal.loop-k-preserved-then-k-skip
loop-k-preserved-then-k-skip g c =
    let lt : c.loop-k.k < length c.args.automaton.now.states = omega arith in
    lacks_step c.loop-k.invariant _ (others_skip c.args.automaton.now c.args.texts.now c.loop-k.k lt (c.if-k-skip.true ∙ c.requires.least)) (prints_nothing _)

pub loop-k-preserved : goal.loop-k-preserved
loop-k-preserved g c =
    let lt : c.loop-k.k < length c.args.automaton.now.states = omega arith in
    let e = others_put c.args.automaton.now c.args.texts.now c.loop-k.k lt (λ k. c.if-k-skip.false (k ∙ sym c.requires.least)) in
    lacks_step c.loop-k.invariant _ e c.put_block.ensures

pub returns : goal.returns
returns g c = lacks_end c.loop-k.invariant (others_end c.args.automaton.now c.args.texts.now c.loop-k.k (omega arith))
