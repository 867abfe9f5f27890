use Rattle.ltl_formula.proofs.FormsLemmas.{second_made, forms_made}
use Rattle.ltl_formula.proofs.shared_nodes.SharedNodes.node_forms.Goals as goal

pub form_if-requires-2-clause-made : goal.form_if-requires-2-clause-made
form_if-requires-2-clause-made g c = second_made c.args.self.now c.form_if.new.self c.args.done.now c.args.node c.args.need c.requires.before c.requires.made c.in_ok-positive.ensures.keeps

pub returns : goal.returns
returns g c =
    forms_made c.args.self.now c.form_if.new.self c.args.done.now c.args.node c.args.need c.requires.before c.requires.made c.form_if-2.new.self _ c.in_ok-positive.ensures c.in_ok-negative.ensures
