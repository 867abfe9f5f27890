use Rattle.ltl_syntax.proofs.StateLemmas.{frame_pushed}
use Rattle.ltl_syntax.proofs.parser.Parser.push_frame.Goals as goal

pub invariant_of-self-2 : goal.invariant_of-self-2
invariant_of-self-2 g c =
    frame_pushed _ _ _ _ c.self.invariant c.push.new.self.items c.args.frame c.in_ok-push.ensures.ok c.requires
