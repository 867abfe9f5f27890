use Rattle.std.proofs.Common.{◌<◌, ◌∙◌, [], ap, cond, arith, length, refl, not}
use Rattle.std.specs.Prelude.{slice_set}
use Rattle.std.specs.Ordering.{nat_cmp}
use Rattle.ltl_spec.specs.Collections.Sets.{put}
use Rattle.ltl_alt.specs.ConjunctTableView.{tells_independent}
use Rattle.ltl_alt.proofs.ConjunctTableLaws.{linked_step}
use Rattle.ltl_alt.proofs.TransitionLaws.{index_same}
use Rattle.ltl_alt.proofs.conjunct_table.link.Goals as goal

pub conjuncts-preserved : goal.conjuncts-preserved
conjuncts-preserved g c =
    let n = c.len-number.result in
    let long = c.len-number.ensures in
    let k = c.conjuncts.k in
    let d = c.args.dependency.now in
    let count = c.conjuncts.invariant.count in
    let many = c.requires.count in
    let inside : k < length c.args.links.now.items = omega arith in
    let inside_new : k < length c.conjuncts.links.items = omega arith in
    let inside_dependencies : k < length c.args.dependencies.now = omega arith in
    let line = c.index_mut.ensures.value ∙ index_same c.conjuncts.links.items k _ [] inside_new in
    let other = c.index-dependencies-k.is ∙ index_same c.args.dependencies.now k _ _ inside_dependencies in
    linked_step c.args.dependencies.now d n k c.args.links.now.items c.conjuncts.links.items _ c.conjuncts.own _ _ c.is_independent-is_linked.result c.conjuncts.invariant inside
    (c.is_independent-is_linked.ensures ∙ ap (tells_independent d) other) refl (ap (slice_set c.conjuncts.links.items k) (c.put_if.ensures ∙ ap (λ l. cond (not c.is_independent-is_linked.result) (put nat_cmp n l) l) line)) c.put_if-in-conjuncts.ensures
