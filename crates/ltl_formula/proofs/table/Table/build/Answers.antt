use Rattle.std.proofs.Common.{length, subst, sym}
use Rattle.ltl_spec.specs.NormalForms.Normal.{Normal}
use Rattle.ltl_spec.specs.NormalForms.NormalForm.{core}
use Rattle.ltl_spec.specs.Tools.Limits.{stated_limits}
use Rattle.ltl_spec.proofs.Checking.BelowLaws.{HasLeavesBelow}
use Rattle.ltl_syntax.specs.FormulaView.{whole_tree}
use Rattle.ltl_formula.proofs.TableLemmas.{leaves_more, table_literals}
use Rattle.ltl_formula.proofs.table.Table.build.Goals as goal

pub of_node-requires-clause-literals : goal.of_node-requires-clause-literals
of_node-requires-clause-literals g c =
    subst (λ (F : Normal). HasLeavesBelow stated_limits.propositions F) (sym c.in_ok-root.ensures.made.stands.tree)
    (leaves_more (length c.args.formula.now.names) stated_limits.propositions c.in_ok-root.ensures.few (core (whole_tree c.args.formula.now.nodes) c.args.negate c.in_ok-graph.graph.rewrite) c.in_ok-root.ensures.literals)

pub returns-clause-literals : goal.returns-clause-literals
returns-clause-literals g c =
    table_literals c.of_node.result (length c.args.formula.now.names) (core (whole_tree c.args.formula.now.nodes) c.args.negate c.in_ok-graph.graph.rewrite) _ c.of_node.ensures.table c.of_node.ensures.core c.in_ok-root.ensures.made.stands.tree
    c.in_ok-root.ensures.literals
