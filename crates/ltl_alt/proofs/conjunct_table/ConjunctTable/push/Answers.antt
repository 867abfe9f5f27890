use Rattle.std.proofs.Common.{length, subst}
use Rattle.ltl_alt.specs.TransitionView.{table_at}
use Rattle.ltl_alt.specs.SupportView.{AreDependencies}
use Rattle.ltl_alt.specs.ConjunctTableView.{IsLinked}
use Rattle.ltl_alt.proofs.ConjunctTableLaws.{linked_push}
use Rattle.ltl_alt.proofs.conjunct_table.ConjunctTable.push.Goals as goal

pub returns-clause-linked : goal.returns-clause-linked
returns-clause-linked g c =
    let T = table_at c.args.table.now in
    let d = c.of-dependency.result in
    let new = c.link-links.new.links.items in
    let line = c.link-links.result in
    let dependencies = c.args.self.now.dependencies.items in
    let links = c.args.self.now.links.items in
    let at_first = subst (λ ds. IsLinked ds d (length links) (length links) links new line) c.as_slice-2.ensures.value c.link-links.ensures in
    let linked = subst (λ m. IsLinked dependencies d m m links new line) c.requires.linked.link_count at_first in
    linked_push T c.args.self.now.lists.items dependencies links new _ _ _ c.args.pairs d line c.requires.linked c.requires.sound
    (subst (λ x. AreDependencies T x d) c.as_slice.ensures c.of-dependency.ensures) linked c.in_ok-push-4.ensures.items c.in_ok-push-2.ensures.items c.in_ok-push.ensures.items
