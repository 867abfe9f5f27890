use Rattle.std.proofs.Common.{◌∙◌, ap, refl}
use Rattle.ltl_syntax.proofs.StateLemmas.{closed_kept, closed_pop, step_popped}
use Rattle.ltl_syntax.proofs.parser.Parser.close_bracket.Goals as goal

pub invariant_of-self : goal.invariant_of-self
invariant_of-self g c =
    closed_kept _ _ _ _ c.self.invariant (ap (λ v. v.has_operand) c.self.view_is ∙ c.requires) c.close.new.nodes.items c.close.new.frames.items c.in_err-close.ensures.operands c.in_err-close.ensures.once c.in_err-close.ensures.pending c.in_err-close.ensures.longer

pub invariant_of-self-2 : goal.invariant_of-self-2
invariant_of-self-2 g c =
    closed_pop _ _ _ _ c.self.invariant (ap (λ v. v.has_operand) c.self.view_is ∙ c.requires) c.close.new.nodes.items c.close.new.frames.items c.in_ok-close.ensures.operands c.in_ok-close.ensures.once c.in_ok-close.ensures.pending c.in_ok-close.ensures.longer
    c.in_ok-close.ensures.closed c.pop.new.self.items c.pop.result c.pop.ensures.items

pub returns-clause-reader : goal.returns-clause-reader
returns-clause-reader g c =
    step_popped c.args.self.now _ c.close.new.nodes.items _ c.close.new.frames.items _ _ 5 c.self.view_is c.requires c.in_ok-close.ensures.closed
    c.pop.new.self.items c.pop.result c.is_some_and.result refl c.pop.ensures.items c.pop.ensures.variant.1 c.is_some_and.ensures
