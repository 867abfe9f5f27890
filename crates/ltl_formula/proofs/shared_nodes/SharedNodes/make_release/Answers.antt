use Rattle.ltl_formula.proofs.MadeLemmas.{release_made}
use Rattle.ltl_formula.proofs.shared_nodes.SharedNodes.make_release.Goals as goal

pub returns : goal.returns
returns g c =
    release_made c.take.result c.args.self.now c.take.new.self c.rewrites-rewrite.ensures.constants c.choose_release.result c.take.ensures c.rewrites-rewrite.result c.rewrites-rewrite.ensures.rewrite c.args.i c.args.j c.requires.left c.requires.right c.node-right.result c.node-right.ensures.found c.choose_release.ensures.chosen

pub take-requires : goal.take-requires
take-requires g c = c.choose_release.ensures.inside _ c.rewrites-rewrite.ensures.constants.bottom_inside c.requires.left c.requires.right
