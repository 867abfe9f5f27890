use Rattle.std.proofs.Common.{◌-◌, arith, length}
use Rattle.ltl_formula.proofs.NeedsLemmas.{closed_more, wider_on}
use Rattle.ltl_formula.proofs.needs.add_all.Goals as goal

pub nodes-preserved : goal.nodes-preserved
nodes-preserved g c = record {
  inside = let l = c.add_below.ensures.wider.long in let b = c.nodes.invariant.inside in omega arith;
  wider = wider_on (length c.args.formula.now.nodes) (c.nodes.i - 1) c.args.needs.now c.nodes.needs c.add_below.new.needs (let l = c.nodes.invariant.wider.long in let e = c.requires in let b = c.nodes.invariant.inside in omega arith) c.nodes.invariant.wider c.add_below.ensures.wider;
  closed =
      closed_more (length c.args.formula.now.names) (c.nodes.i - 1) c.nodes.i c.args.formula.now.nodes c.nodes.needs c.add_below.new.needs (omega arith) c.len-i.ensures.formula.operands c.nodes.invariant.closed c.add_below.ensures.wider
      c.node-node.result c.node-node.ensures.found c.add_below.ensures.marked;
}
