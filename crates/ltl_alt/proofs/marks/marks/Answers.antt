use Rattle.std.proofs.Common.{◌≡◌, ◌∙◌, ap, false, not, subst}
use Rattle.std.specs.List.{filter}
use Rattle.std.specs.Ordering.{nat_cmp}
use Rattle.std.specs.Prelude.{slice_index_or}
use Rattle.ltl_spec.specs.Collections.Sets.{has}
use Rattle.ltl_spec.specs.NormalForms.Normal.{Bottom}
use Rattle.ltl_spec.specs.Transitions.Cubes.{is_contradictory}
use Rattle.ltl_spec.specs.Transitions.Pairs.{Pair}
use Rattle.ltl_spec.specs.Transitions.RowTransitions.{is_marked}
use Rattle.ltl_alt.specs.TransitionView.{table_at}
use Rattle.ltl_alt.proofs.ColumnLaws.{kept_places, not_twice}
use Rattle.ltl_alt.proofs.marks.marks.Goals as goal

pub returns : goal.returns
returns g c =
    let T = table_at c.args.table.now in
    let p = c.args.pair.now in
    let u = c.args.unmarked.now in
    let consistent = subst (λ (q : Pair). is_contradictory q.cube ≡ false) c.pair.view_is c.invariant.ensures.consistent in
    c.without.ensures ∙ ap (filter (λ i. not (has nat_cmp i u))) c.requires.every
    ∙ kept_places (λ i. not (has nat_cmp i u)) (is_marked T p) Bottom T.untils (λ i l. ap not (c.requires.unmarked consistent i l) ∙ not_twice (is_marked T p (slice_index_or T.untils i Bottom)))
