use Rattle.std.proofs.Common.{◌≡◌}
use Rattle.ltl_spec.proofs.NormalForms.SharedRewriting.{IsMore}
use Rattle.ltl_formula.proofs.FormsLemmas.{AreMade}
use Rattle.ltl_formula.proofs.polarity.core_number.Given as goal

abbrev pub invariant-nodes : goal.invariant-nodes
invariant-nodes g l = record {
  rewrite : l.graph.rewrite ≡ l.fn.graph.rewrite;
  keeps : IsMore l.fn.graph.nodes l.graph.nodes;
  made : AreMade l.graph l.done.items l.formula.nodes l.needs l.i;
}
