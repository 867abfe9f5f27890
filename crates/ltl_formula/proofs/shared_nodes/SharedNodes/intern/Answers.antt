use Rattle.ltl_formula.proofs.SharedNodesLemmas.{put_constants, put_makes}
use Rattle.ltl_formula.proofs.shared_nodes.SharedNodes.intern.Goals as goal

pub invariant_of-self-2 : goal.invariant_of-self-2
invariant_of-self-2 g c =
    put_constants c.self.inside.rows.keys c.self.inside.rewrite c.args.self.now c.self.view_is c.self.invariant c.args.node c.requires c.insert_full.new.self.keys c.in_ok-number.ensures.keys

pub returns : goal.returns
returns g c =
    put_makes c.self.inside.rows.keys c.self.inside.rewrite c.args.self.now c.self.view_is c.self.invariant c.args.node c.requires c.insert_full.new.self.keys c.in_ok-number.ensures.keys c.in_ok-number.number c.in_ok-number.ensures.stored
