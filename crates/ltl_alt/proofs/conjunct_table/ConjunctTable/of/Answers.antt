use Rattle.std.proofs.Common.{◌≡◌, ◌<◌, ap, arith, length, inl, inr, sym, subst}
use Rattle.std.specs.Ordering.{nat_cmp}
use Rattle.ltl_spec.specs.Collections.Sets.{Has}
use Rattle.ltl_spec.proofs.Collections.Orders.{nat_linear}
use Rattle.ltl_spec.proofs.Collections.SetLaws.{all_at, Has-put, put_cases}
use Rattle.ltl_alt.specs.TransitionView.{table_at}
use Rattle.ltl_alt.proofs.ConjunctTableLaws.{taken_one, still_left, left_stays}
use Rattle.ltl_alt.proofs.NeedsLaws.{same_or_other}
use Rattle.ltl_alt.proofs.ProductLaws.{fewer_left}
use Rattle.ltl_alt.proofs.conjunct_table.ConjunctTable.of.Goals as goal

pub rows-init : goal.rows-init
rows-init g c =
    let none : length c.new-conjuncts.result.lists.items ≡ 0 = ap length c.new-conjuncts.ensures.lists in
    let few = c.elementary_places-rest.ensures.few in
    record {
      lists = c.in_ok-lists.ensures (table_at c.args.context.now.table.now) c.args.context.now.pruning.rule;
      conjuncts = record { linked = c.new-conjuncts.ensures.linked (table_at c.args.context.now.table.now); rows = c.new-conjuncts.ensures.rows (table_at c.args.context.now.table.now) c.args.context.now.pruning.rule };
      room = omega arith;
      new = λ i h k. subst (λ xs. Has xs i) c.new-conjuncts.ensures.made k;
      inside = c.elementary_places-rest.ensures.inside;
      all = λ i l. inr (c.elementary_places-rest.ensures.all i l);
    }

pub single-requires : goal.single-requires
single-requires g c = all_at (λ x. x < 256) c.rows.rest c.in-Some.place c.invariant-in-Some.ensures.below c.in-Some.ensures

pub rows-smaller : goal.rows-smaller
rows-smaller g c = fewer_left c.rows.rest c.single.result c.without-rest.result c.in-Some.place c.in-Some.ensures (taken_one c.single.result c.in-Some.place c.single.ensures) c.without-rest.ensures

pub overflow_sub-most-in-Some : goal.overflow_sub-most-in-Some
overflow_sub-most-in-Some g c =
    let size = c.count.ensures in
    let long = c.len.ensures in
    let room = c.rows.invariant.room in
    let less = fewer_left c.rows.rest c.single.result c.without-rest.result c.in-Some.place c.in-Some.ensures (taken_one c.single.result c.in-Some.place c.single.ensures) c.without-rest.ensures in
    omega arith

pub add-requires-clause-room : goal.add-requires-clause-room
add-requires-clause-room g c =
    let size = c.count.ensures in
    let long = c.len.ensures in
    let room = c.rows.invariant.room in
    let less = fewer_left c.rows.rest c.single.result c.without-rest.result c.in-Some.place c.in-Some.ensures (taken_one c.single.result c.in-Some.place c.single.ensures) c.without-rest.ensures in
    (c.rows.invariant.new c.in-Some.place c.in-Some.ensures, (c.rows.invariant.inside c.in-Some.place c.in-Some.ensures, omega arith, omega arith))

pub rows-preserved : goal.rows-preserved
rows-preserved g c =
    let few = c.in_ok-add.ensures.few in
    let size = c.count.ensures in
    let long = c.len.ensures in
    let room = c.rows.invariant.room in
    let less = fewer_left c.rows.rest c.single.result c.without-rest.result c.in-Some.place c.in-Some.ensures (taken_one c.single.result c.in-Some.place c.single.ensures) c.without-rest.ensures in
    record {
      lists = c.in_ok-add.ensures.lists;
      conjuncts = c.in_ok-add.ensures.conjuncts;
      room = omega arith;
      new = λ i h k.
          let left = still_left c.rows.rest c.single.result c.without-rest.result c.in-Some.place i c.single.ensures c.without-rest.ensures h in
          elim (put_cases nat_cmp c.in-Some.place c.rows.conjuncts.made i (subst (λ xs. Has xs i) c.in_ok-add.ensures.made k)) [ inl e ↦ left.1 e | inr m ↦ c.rows.invariant.new i left.0 m ];
      inside = λ i h. c.rows.invariant.inside i (still_left c.rows.rest c.single.result c.without-rest.result c.in-Some.place i c.single.ensures c.without-rest.ensures h).0;
      all = λ i l. elim (c.rows.invariant.all i l) [
        | inl m ↦ inl (subst (λ xs. Has xs i) (sym c.in_ok-add.ensures.made) (Has-put nat_linear c.in-Some.place c.rows.conjuncts.made i (inr m)))
        | inr h ↦ elim (same_or_other i c.in-Some.place) [
          | inl e ↦ inl (subst (λ xs. Has xs i) (sym c.in_ok-add.ensures.made) (Has-put nat_linear c.in-Some.place c.rows.conjuncts.made i (inl e)))
          | inr n ↦ inr (left_stays c.rows.rest c.single.result c.without-rest.result c.in-Some.place i c.single.ensures c.without-rest.ensures h n)
        ]
      ];
    }
