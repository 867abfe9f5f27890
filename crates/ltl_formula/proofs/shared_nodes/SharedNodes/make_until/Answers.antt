use Rattle.ltl_formula.proofs.MadeLemmas.{until_made}
use Rattle.ltl_formula.proofs.shared_nodes.SharedNodes.make_until.Goals as goal

pub returns : goal.returns
returns g c =
    until_made c.take.result c.args.self.now c.take.new.self c.rewrites-rewrite.ensures.constants c.choose_until.result c.take.ensures c.rewrites-rewrite.result c.rewrites-rewrite.ensures.rewrite c.args.i c.args.j c.requires.left c.requires.right c.node-right.result c.node-right.ensures.found c.choose_until.ensures.chosen

pub take-requires : goal.take-requires
take-requires g c = c.choose_until.ensures.inside _ c.rewrites-rewrite.ensures.constants.bottom_inside c.requires.left c.requires.right
