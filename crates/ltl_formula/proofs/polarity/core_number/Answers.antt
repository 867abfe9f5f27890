use Rattle.std.proofs.Common.{◌∙◌, arith, length}
use Rattle.ltl_spec.proofs.NormalForms.SharedRewriting.{more_on}
use Rattle.ltl_syntax.specs.FormulaView.{whole_tree}
use Rattle.ltl_spec.proofs.Checking.BelowLaws.{core_below}
use Rattle.ltl_formula.proofs.TableLemmas.{whole_below}
use Rattle.ltl_formula.proofs.FormsLemmas.{operands_made, stands_before, step_made}
use Rattle.ltl_formula.proofs.polarity.core_number.Goals as goal

pub node_forms-requires-clause-before : goal.node_forms-requires-clause-before
node_forms-requires-clause-before g c =
    stands_before c.nodes.graph c.nodes.done.items c.args.formula.now.nodes c.args.needs.now c.nodes.i c.nodes.invariant.made c.requires.closed (omega arith) (length c.args.formula.now.names) c.node.result c.node.ensures.found c.node.ensures.operands
    c.deref.result.now c.deref.ensures

pub node_forms-requires-clause-made : goal.node_forms-requires-clause-made
node_forms-requires-clause-made g c =
    operands_made c.nodes.graph c.nodes.done.items c.args.formula.now.nodes c.args.needs.now c.nodes.i c.nodes.invariant.made c.requires.closed (omega arith) (length c.args.formula.now.names) c.node.result c.node.ensures.found c.node.ensures.operands
    c.deref.result.now c.deref.ensures

pub nodes-preserved : goal.nodes-preserved
nodes-preserved g c = record {
  rewrite = c.in_ok-forms.ensures.rewrite ∙ c.nodes.invariant.rewrite;
  keeps = more_on c.args.graph.now.nodes c.nodes.graph.nodes c.node_forms.new.self.nodes c.nodes.invariant.keeps c.in_ok-forms.ensures.keeps;
  made =
      step_made c.nodes.graph c.nodes.done.items c.args.formula.now.nodes c.args.needs.now c.nodes.i c.nodes.invariant.made c.requires.closed (omega arith) (length c.args.formula.now.names) c.node.result c.node.ensures.found c.node.ensures.operands
      c.len-count.ensures.formula.operands c.node_forms.new.self _ c.deref.result.now _ c.deref.ensures c.in_ok-push.ensures.ok c.in_ok-forms.ensures;
}

pub returns-clause-literals : goal.returns-clause-literals
returns-clause-literals g c =
    core_below (length c.args.formula.now.names) (whole_tree c.args.formula.now.nodes) c.args.negate c.args.graph.now.rewrite (whole_below c.args.formula.now.nodes c.args.formula.now.names c.len-count.ensures.formula)
