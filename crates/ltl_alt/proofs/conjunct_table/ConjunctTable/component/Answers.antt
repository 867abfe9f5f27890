use Rattle.std.proofs.Common.{◌∙◌, ap, sym}
use Rattle.std.specs.Cmp.Lexicographic.{bytes_decides}
use Rattle.std.specs.Ordering.{nat_cmp}
use Rattle.ltl_spec.specs.Collections.Sets.{union}
use Rattle.ltl_alt.proofs.ConjunctTableLaws.{component_grown, more_inside, more_there}
use Rattle.ltl_alt.proofs.conjunct_table.ConjunctTable.component.Goals as goal

pub returns-then-eq : goal.returns-then-eq
returns-then-eq g c =
    let inside = c.rounds.inside in
    component_grown c.args.self.now.links.items c.args.first c.args.rest.now inside c.linked_with-linked.result c.union-more.result c.rounds.invariant.there c.rounds.invariant.some c.linked_with-linked.ensures
    (c.union-more.ensures ∙ ap (union nat_cmp inside) c.common.ensures) ((bytes_decides c.union-more.result inside).0 (sym c.eq.ensures ∙ c.if-eq.true))

pub rounds-preserved : goal.rounds-preserved
rounds-preserved g c =
    let inside = c.rounds.inside in
    let grown = c.union-more.ensures ∙ ap (union nat_cmp inside) c.common.ensures in
    record {
      there = more_there c.args.first c.args.rest.now inside c.linked_with-linked.result c.union-more.result c.rounds.invariant.there grown;
      some = more_inside c.args.rest.now inside c.linked_with-linked.result c.union-more.result c.rounds.invariant.some grown;
    }
