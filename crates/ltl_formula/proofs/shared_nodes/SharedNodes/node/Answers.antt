use Rattle.ltl_formula.proofs.SharedNodesLemmas.{node_below}
use Rattle.ltl_formula.proofs.shared_nodes.SharedNodes.node.Goals as goal

pub returns-clause-operands : goal.returns-clause-operands
returns-clause-operands g c =
    node_below c.self.inside.rows.keys c.self.inside.rewrite c.args.self.now c.self.view_is c.self.invariant c.args.k c.index.result.now c.index.ensures c.requires
