use Rattle.std.proofs.Common.{◌∙◌, ap, sym}
use Rattle.std.specs.Ordering.{nat_cmp}
use Rattle.ltl_spec.specs.Collections.Sets.{union}
use Rattle.ltl_alt.proofs.ConjunctTableLaws.{linked_more, linked_past, links_at}
use Rattle.ltl_alt.proofs.conjunct_table.ConjunctTable.linked_with.Goals as goal

pub members-preserved-in-Some-links : goal.members-preserved-in-Some-links
members-preserved-in-Some-links g c =
    let links = c.args.self.now.links.items in
    let k = c.in-Some.number in
    let found = links_at links k c.in-Some-links.links (sym c.links.ensures ∙ c.in-Some-links.is) in
    linked_more links c.args.inside.now c.members.rest c.next.new.self c.members.linked c.union-linked.result k c.in-Some.ensures.steps c.members.invariant (c.union-linked.ensures ∙ ap (union nat_cmp c.members.linked) (sym found))

pub members-preserved : goal.members-preserved
members-preserved g c =
    linked_past c.args.self.now.links.items c.args.inside.now c.members.rest c.next.new.self c.members.linked c.in-Some.number c.in-Some.ensures.steps c.members.invariant (sym c.links.ensures ∙ c.in_default-links.is)
