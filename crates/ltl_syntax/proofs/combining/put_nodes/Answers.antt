use Rattle.std.proofs.Common.{◌++◌, ◌∙◌, ap, arith, length, map}
use Rattle.ltl_syntax.specs.CombinationView.{moved_nodes, number_among}
use Rattle.ltl_syntax.proofs.CombinationLaws.{node_put, nodes_put}
use Rattle.ltl_syntax.proofs.TreeLemmas.{push_length}
use Rattle.ltl_syntax.proofs.combining.put_nodes.Goals as goal

pub copying-preserved : goal.copying-preserved
copying-preserved g c =
    let before = c.copying.invariant in
    let all = map (λ k. k.now) c.args.names.now.keys in
    let whole = c.args.nodes.now.items ++ moved_nodes c.len-base.result all c.args.formula.now in
    let pushed = c.in_ok-push.ensures.items in
    let longer = ap length pushed ∙ push_length c.copying.nodes.items c.moved_node-node.result in
    record {
      count = omega (arith, longer, before.count);
      first = before.first;
      put = node_put c.len-base.result (number_among all c.args.formula.now.names) c.args.formula.now.nodes whole c.copying.i c.node.result c.moved_node-node.result c.copying.nodes.items
          c.push.new.self.items (omega (arith, c.copying-test.true, c.len-i-end.ensures.count)) c.node.ensures.found c.moved_node-node.ensures pushed before.put;
    }

pub returns : goal.returns
returns g c =
    let after = c.copying.invariant in
    let all = map (λ k. k.now) c.args.names.now.keys in
    let whole = c.args.nodes.now.items ++ moved_nodes c.len-base.result all c.args.formula.now in
    nodes_put c.len-base.result (number_among all c.args.formula.now.names) c.args.formula.now.nodes whole c.copying.i c.copying.nodes.items
    (omega (arith, c.copying-test.false, c.len-i-end.ensures.count)) after.put
    ∙ ap (λ n. c.args.nodes.now.items ++ moved_nodes n all c.args.formula.now) after.first
