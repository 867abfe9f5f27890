use Rattle.std.proofs.Common.{◌≡◌, ◌∙◌, ◌-◌, ap, length, vec_len, arith}
use Rattle.ltl_syntax.proofs.StateLemmas.{closed_kept, closed_same, closed_pending, step_pending}
use Rattle.ltl_syntax.proofs.parser.Parser.push_pending.Goals as goal

pub invariant_of-self : goal.invariant_of-self
invariant_of-self g c =
    closed_kept _ _ _ _ c.self.invariant (ap (λ v. v.has_operand) c.self.view_is ∙ c.requires) c.close.new.nodes.items c.close.new.frames.items c.in_err-close.ensures.operands c.in_err-close.ensures.once c.in_err-close.ensures.pending c.in_err-close.ensures.longer

pub invariant_of-self-in_err-left : goal.invariant_of-self-in_err-left
invariant_of-self-in_err-left g c =
    closed_kept _ _ _ _ c.self.invariant (ap (λ v. v.has_operand) c.self.view_is ∙ c.requires) c.close.new.nodes.items c.close.new.frames.items c.in_ok-close.ensures.operands c.in_ok-close.ensures.once c.in_ok-close.ensures.pending c.in_ok-close.ensures.longer

pub invariant_of-self-in_err-push : goal.invariant_of-self-in_err-push
invariant_of-self-in_err-push g c =
    closed_same _ _ _ _ c.self.invariant (ap (λ v. v.has_operand) c.self.view_is ∙ c.requires) c.close.new.nodes.items c.close.new.frames.items c.in_ok-close.ensures.operands c.in_ok-close.ensures.once c.in_ok-close.ensures.pending c.in_ok-close.ensures.longer
    c.push.new.self.items (ap (λ v. v.items) c.in_err-push.ensures.err)

pub invariant_of-self-2 : goal.invariant_of-self-2
invariant_of-self-2 g c =
    let counted : vec_len c.close.new.nodes ≡ length c.close.new.nodes.items = omega (arith, c.close.new.nodes.ok.0) in
    closed_pending _ _ _ _ c.self.invariant (ap (λ v. v.has_operand) c.self.view_is ∙ c.requires) c.close.new.nodes.items c.close.new.frames.items c.in_ok-close.ensures.operands c.in_ok-close.ensures.once c.in_ok-close.ensures.pending c.in_ok-close.ensures.longer
    c.args.self.now c.push.new.self.items c.in_ok-left.left c.args.operator c.self.view_is c.requires (c.in_ok-left.ensures ∙ ap (λ k. k - 1) (c.len.ensures ∙ counted)) c.in_ok-push.ensures.ok

pub returns-clause-reader : goal.returns-clause-reader
returns-clause-reader g c =
    let counted : vec_len c.close.new.nodes ≡ length c.close.new.nodes.items = omega (arith, c.close.new.nodes.ok.0) in
    step_pending c.args.self.now _ c.close.new.nodes.items _ c.close.new.frames.items _ _ c.left_rank.result c.self.view_is c.requires c.in_ok-close.ensures.closed
    c.push.new.self.items c.in_ok-left.left c.args.operator c.left_rank.ensures (c.in_ok-left.ensures ∙ ap (λ k. k - 1) (c.len.ensures ∙ counted)) c.in_ok-push.ensures.ok
