use Rattle.std.proofs.Common.{ap, arith, length, inl, inr, sym, subst}
use Rattle.std.specs.Ordering.{nat_cmp}
use Rattle.ltl_spec.specs.Collections.Sets.{Has}
use Rattle.ltl_spec.proofs.Collections.Orders.{nat_linear}
use Rattle.ltl_spec.proofs.Collections.SetLaws.{Has-put, put_cases}
use Rattle.ltl_alt.proofs.NeedsLaws.{same_or_other}
use Rattle.ltl_alt.proofs.place.elementary_places.Goals as goal

pub insert-requires : goal.insert-requires
insert-requires g c =
    let few = c.invariant.ensures.few_elementary in
    let same = ap length c.elementary-place-end.ensures in
    let test = c.places-test.true in
    omega arith

pub places-preserved : goal.places-preserved
places-preserved g c = record {
  all = λ i l. subst (λ xs. Has xs i) (sym c.insert.ensures) (elim (same_or_other i c.places.place) [
    | inl e ↦ Has-put nat_linear c.places.place c.places.places i (inl e)
    | inr n ↦ Has-put nat_linear c.places.place c.places.places i (inr (c.places.invariant.all i (omega (arith, l, n))))
  ]);
  inside = λ i h. elim (put_cases nat_cmp c.places.place c.places.places i (subst (λ xs. Has xs i) c.insert.ensures h)) [
    | inl e ↦ omega (arith, e)
    | inr m ↦ let l = c.places.invariant.inside i m in omega (arith, l)
  ];
}
