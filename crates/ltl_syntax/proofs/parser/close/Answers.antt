use Rattle.std.proofs.Common.{◌≡◌, ◌∙◌, ap, sym, true, ◌-◌, ◌++◌, arith, length, slice_get, Some, option_to_list, vec_len, subst}
use Rattle.ltl_syntax.specs.CanonicalWork.{HasOperands}
use Rattle.ltl_syntax.specs.ParserView.{AreUsedOnce, closed_node}
use Rattle.ltl_syntax.proofs.ParserLemmas.{close_turn}
use Rattle.ltl_syntax.proofs.UseLemmas.{close_once}
use Rattle.ltl_syntax.proofs.parser.close.Goals as goal

pub closing-preserved : goal.closing-preserved
closing-preserved g c =
    let i = c.closing.invariant in
    let counted : vec_len c.closing.nodes ≡ length c.closing.nodes.items = omega (arith, c.closing.nodes.ok.0) in
    let top : c.pop.result ≡ Some c.in-Some.frame.now = c.pop.ensures.value ∙ sym (c.in-Some.ensures.value ∙ ap (λ l. slice_get l (length l - 1)) c.deref.ensures) in
    let popped = c.pop.ensures.items ∙ ap (λ o. c.pop.new.self.items ++ option_to_list o) top in
    let pushed = c.in_ok-push-in-Some-closed.ensures.items in
    let made = ap (λ k. closed_node c.in-Some.frame.now (k - 1) c.args.most) (sym (c.len.ensures ∙ counted)) ∙ sym c.in-Some-closed.ensures in
    let turn = close_turn c.args.most c.closing.nodes.items c.push.new.self.items c.closing.frames.items c.pop.new.self.items c.in-Some.frame.now c.in-Some-closed.node popped pushed made i.some i.pending in
    let longer = turn.longer in
    record {
      some = turn.some;
      pending = turn.pending;
      same = turn.same ∙ i.same;
      operands = λ count o. turn.operands count (i.operands count o);
      once = λ w. close_once c.args.most c.closing.nodes.items c.push.new.self.items c.closing.frames.items c.pop.new.self.items c.in-Some.frame.now c.in-Some-closed.node popped pushed made (i.once w);
      longer = omega arith;
    }

pub returns-in_err-push-in-Some-closed-clause-operands : goal.returns-in_err-push-in-Some-closed-clause-operands
returns-in_err-push-in-Some-closed-clause-operands g c =
    λ count o. subst (HasOperands count) (sym c.in_err-push-in-Some-closed.ensures.items) (c.closing.invariant.operands count o)

pub returns-in_err-push-in-Some-closed-clause-pending : goal.returns-in_err-push-in-Some-closed-clause-pending
returns-in_err-push-in-Some-closed-clause-pending g c =
    rw c.in_err-push-in-Some-closed.ensures.items c.closing.invariant.pending

pub returns-in_err-push-in-Some-closed-clause-once : goal.returns-in_err-push-in-Some-closed-clause-once
returns-in_err-push-in-Some-closed-clause-once g c =
    λ w. subst (λ ns. AreUsedOnce ns c.closing.frames.items true) (sym c.in_err-push-in-Some-closed.ensures.items) (c.closing.invariant.once w)
