use Rattle.ltl_formula.proofs.MadeLemmas.{or_made}
use Rattle.ltl_formula.proofs.shared_nodes.SharedNodes.make_or.Goals as goal

pub returns : goal.returns
returns g c =
    or_made c.take.result c.args.self.now c.take.new.self c.rewrites-rewrite.ensures.constants c.choose_or.result c.take.ensures c.rewrites-rewrite.result c.rewrites-rewrite.ensures.rewrite c.args.i c.args.j c.requires.left c.requires.right c.choose_or.ensures.chosen
