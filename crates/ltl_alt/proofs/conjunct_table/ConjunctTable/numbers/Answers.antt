use Rattle.std.proofs.Common.{◌≡◌, ◌<◌, ◌∙◌, ap, arith, sym, length}
use Rattle.std.specs.Ordering.{nat_cmp}
use Rattle.ltl_spec.specs.Collections.Sets.{has}
use Rattle.ltl_spec.proofs.Collections.Orders.{nat_linear}
use Rattle.ltl_spec.proofs.Collections.SetLaws.{is_subset_Decides}
use Rattle.ltl_alt.proofs.ConjunctTableLaws.{not_subset}
use Rattle.ltl_alt.proofs.TransitionLaws.{marks_end, marks_step}
use Rattle.ltl_alt.proofs.conjunct_table.ConjunctTable.numbers.Goals as goal

pub put_if-requires : goal.put_if-requires
put_if-requires g c =
    let long = c.len-k-end.ensures in
    let test = c.conjuncts-test.true in
    let few = c.requires in
    omega arith

pub conjuncts-preserved : goal.conjuncts-preserved
conjuncts-preserved g c =
    let owners = c.args.self.now.owners.items in
    let state = c.args.state.now in
    let long = c.len-k-end.ensures in
    let test = c.conjuncts-test.true in
    let inside : c.conjuncts.k < length owners = omega arith in
    c.put_if.ensures ∙ marks_step (λ o. has nat_cmp o state) c.index.result.now owners c.conjuncts.k c.holds.result c.conjuncts.numbers inside (c.holds.ensures ∙ ap (λ o. has nat_cmp o state) c.index.ensures) c.conjuncts.invariant

pub returns-then-not-is_subset : goal.returns-then-not-is_subset
returns-then-not-is_subset g c = not_subset c.args.state.now c.args.self.now.made (sym c.is_subset.ensures ∙ c.if-not-is_subset.true)

pub returns : goal.returns
returns g c =
    let owners = c.args.self.now.owners.items in
    let state = c.args.state.now in
    let long = c.len-k-end.ensures in
    let past = c.conjuncts-test.false in
    let most = c.conjuncts.auto.k-end in
    let all : c.conjuncts.k ≡ length owners = omega arith in
    (marks_end (λ o. has nat_cmp o state) owners c.conjuncts.k c.conjuncts.numbers all c.conjuncts.invariant, (is_subset_Decides nat_linear state c.args.self.now.made).0 (sym c.is_subset.ensures ∙ c.if-not-is_subset.false))
