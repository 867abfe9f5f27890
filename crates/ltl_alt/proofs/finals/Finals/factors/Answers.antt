use Rattle.std.proofs.Common.{◌<◌, ◌∷◌, [], ◌∙◌, ap, inl, inr, length, map, sym, subst}
use Rattle.std.specs.Prelude.{not}
use Rattle.std.specs.Ordering.{nat_cmp}
use Rattle.ltl_spec.specs.Collections.Sets.{Has, has}
use Rattle.ltl_spec.proofs.Collections.SetLaws.{all_at, append_cases, filter_cases}
use Rattle.ltl_alt.specs.FinalView.{AreFactorsOf, made_of}
use Rattle.ltl_alt.specs.TransitionView.{table_at}
use Rattle.ltl_alt.proofs.FinalLaws.{factors_kept}
use Rattle.ltl_alt.proofs.MapLaws.{longer_same, longer_trans}
use Rattle.ltl_alt.proofs.ConjunctTableLaws.{map_behind}
use Rattle.ltl_alt.proofs.ProductLaws.{factors_none, fewer_left, lists_more}
use Rattle.ltl_alt.proofs.finals.Finals.factors.Goals as goal

pub components-init : goal.components-init
components-init g c =
    let b = c.args.basis.now in
    let keys = c.args.self.now.lists.keys in
    record {
      finals = c.requires.finals;
      factors = factors_none b keys c.args.all.now c.new-factors.result.items c.new-factors.ensures.items;
      longer = longer_same keys;
      inside = c.requires.inside;
    }

pub component-component-requires-clause-first : goal.component-component-requires-clause-first
component-component-requires-clause-first g c = all_at (λ x. x < 256) c.components.rest c.in-Some.conjunct c.invariant.ensures.below c.in-Some.ensures

pub number-requires-clause-inside : goal.number-requires-clause-inside
number-requires-clause-inside g c = λ k h. c.components.invariant.inside k (c.component-component.ensures.some k h)

pub components-smaller : goal.components-smaller
components-smaller g c = fewer_left c.components.rest c.component-component.result c.without-rest.result c.in-Some.conjunct c.in-Some.ensures c.component-component.ensures.there c.without-rest.ensures

pub components-preserved : goal.components-preserved
components-preserved g c =
    let b = c.args.basis.now in
    let conjuncts = c.requires.basis.conjuncts in
    let old = c.components.self.lists.keys in
    let new = c.number.new.self.lists.keys in
    let before = c.components.factors.items in
    let one = c.in_ok-factor.factor in
    let is = c.in_ok-factor.ensures.number in
    let longer = c.in_ok-factor.ensures.longer in
    let was = factors_kept b old new c.args.all.now before c.components.rest longer c.components.invariant.factors in
    record {
      finals = c.in_ok-factor.ensures.finals;
      factors = (
        λ f h. elim (append_cases before (one ∷ []) f (subst (λ xs. Has xs f) c.in_ok-push.ensures.items h)) [
          | inl m ↦ was.0 f m
          | inr m ↦ elim m [ inl e ↦ subst (λ k. k < length new) (sym e) is.number | inr z ↦ absurd z ]
        ],
        lists_more (table_at b.table.now) b.pruning.rule b.keep_implied b.conjuncts.lists.items b.conjuncts.dependencies.items b.conjuncts.links.items c.args.all.now (map (made_of new) before) (map (made_of new) c.push.new.self.items) new one
            c.components.rest c.component-component.result c.without-rest.result c.in-Some.conjunct conjuncts.linked c.components.invariant.inside was.1 c.invariant.ensures.rising c.invariant-in-Some.ensures.rising c.component-component.ensures is
            (ap (map (made_of new)) c.in_ok-push.ensures.items ∙ map_behind (made_of new) before one) c.without-rest.ensures,
      );
      longer = longer_trans c.args.self.now.lists.keys old new c.components.invariant.longer longer;
      inside = λ k h. c.components.invariant.inside k (filter_cases (λ i. not (has nat_cmp i c.component-component.result)) c.components.rest k (subst (λ xs. Has xs k) c.without-rest.ensures h)).0;
    }

pub returns-clause-factors : goal.returns-clause-factors
returns-clause-factors g c =
    let b = c.args.basis.now in
    subst (λ rest. AreFactorsOf b c.components.self.lists.keys c.args.all.now c.components.factors.items rest) c.in_default.ensures c.components.invariant.factors
