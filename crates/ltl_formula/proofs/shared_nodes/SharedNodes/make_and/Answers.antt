use Rattle.ltl_formula.proofs.MadeLemmas.{and_made}
use Rattle.ltl_formula.proofs.shared_nodes.SharedNodes.make_and.Goals as goal

pub returns : goal.returns
returns g c =
    and_made c.take.result c.args.self.now c.take.new.self c.rewrites-rewrite.ensures.constants c.choose_and.result c.take.ensures c.rewrites-rewrite.result c.rewrites-rewrite.ensures.rewrite c.args.i c.args.j c.requires.left c.requires.right c.choose_and.ensures.chosen
