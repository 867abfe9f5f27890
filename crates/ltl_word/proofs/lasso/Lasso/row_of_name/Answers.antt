use Rattle.std.proofs.Common.{◌≡◌, ◌∙◌, ap, subst, ℕ, ◌-◌, ◌+◌, ◌<◌, ◌≤◌, arith, length, map, []}
use Rattle.std.specs.Prelude.{◌≢◌, slice_index_or}
use Rattle.ltl_spec.proofs.Collections.MemberLaws.{map_length}
use Rattle.std.specs.Ordering.{nat_cmp}
use Rattle.ltl_spec.specs.Collections.Sets.{has}
use Rattle.ltl_word.specs.Rows.{IsRowFrom}
use Rattle.ltl_word.proofs.BitLemmas.{row_more}
use Rattle.ltl_word.proofs.LetterLaws.{name_row}
use Rattle.ltl_word.proofs.lasso.Lasso.row_of_name.Goals as goal
use Rattle.std.proofs.lemmas.List.{get_or_default}

pub positions-preserved : goal.positions-preserved
positions-preserved g c =
    let letters = c.self.inside.letters.items in
    let place = c.place_of-place.result in
    let some : 0 < c.positions.i = c.positions-test.true in
    let one : c.positions.i - 1 + 1 ≤ length letters = let m = c.positions.invariant.below in omega (arith, some, m) in
    let again : c.positions.i ≡ c.positions.i - 1 + 1 = omega (arith, some) in
    record {
      below = omega (arith, one);
      bits = row_more (λ j. has nat_cmp place (slice_index_or letters j [])) (c.positions.i - 1) (length letters) c.positions.row _ _ one
          (subst (λ i. IsRowFrom (λ j. has nat_cmp place (slice_index_or letters j [])) i (length letters) c.positions.row) again c.positions.invariant.bits)
          c.put.ensures.long c.put.ensures.here c.put.ensures.others
          (c.holds.ensures ∙ ap (has nat_cmp place) (c.index.ensures ∙ get_or_default letters (c.positions.i - 1) c.index.result.now [] (omega (arith, one))));
    }

pub returns : goal.returns
returns g c =
    let place = c.place_of-place.result in
    let name = c.args.name.now in
    let names = c.self.inside.names.items in
    let value = c.as_slice.ensures.value in
    name_row (map (λ n. n.items) names) c.self.inside.letters.items c.self.inside.stem c.self.invariant c.args.self.now c.self.view_is name place
    (λ l. subst (λ ns. place < length ns → slice_index_or (map (λ n. n.items) ns) place [] ≡ name) value c.place_of-place.ensures.found (subst (λ n. place < n) (map_length (λ n. n.items) names) l))
    (subst (λ ns. (k : ℕ) → k < place → slice_index_or (map (λ n. n.items) ns) k [] ≢ name) value c.place_of-place.ensures.earlier)
    c.positions.i (let f = c.positions-test.false in omega (arith, f)) c.positions.row c.positions.invariant.bits
