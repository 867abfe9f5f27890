use Rattle.std.proofs.Common.{◌≡◌, ◌<◌, ◌+◌, ◌-◌, subst, arith, length, map, drop, []}
use Rattle.std.proofs.lemmas.List.{get_or-map}
use Rattle.ltl_spec.specs.Collections.Sets.{Has, set_of}
use Rattle.ltl_spec.specs.Semantics.Word.{name_cmp}
use Rattle.ltl_spec.proofs.Collections.MemberLaws.{map_length}
use Rattle.ltl_spec.proofs.Collections.ListLaws.{Has-at}
use Rattle.ltl_spec.proofs.Collections.SetLaws.{all_at}
use Rattle.ltl_word.specs.NameView.{ArePlaces}
use Rattle.ltl_word.proofs.NameLaws.{places_more}
use Rattle.ltl_word.proofs.name_list.places.Goals as goal

pub names-preserved : goal.names-preserved
names-preserved c =
    let items = c.args.letter.now in
    let names = map (λ n. n.now) c.args.names.now in
    let some : 0 < c.names.i = c.names-test.true in
    let below = c.names.invariant.below in
    let size : length (map (λ n. n.now) items) ≡ length items = map_length (λ n. n.now) items in
    let long = map_length (λ n. n.now) c.args.names.now in
    let there = c.place_of.ensures.within in
    let within : c.names.i - 1 < length items = omega (arith, some, below) in
    let again : c.names.i ≡ c.names.i - 1 + 1 = omega (arith, some) in
    record {
      below = omega (arith, below);
      places = places_more names (map (λ n. n.now) items) c.requires.sorted (c.names.i - 1) _ c.place_of.result c.names.places c.insert.new.self (omega (arith, within, size))
          (get_or-map (λ n. n.now) items (c.names.i - 1) _ [] within) (omega (arith, there, long)) c.place_of.ensures.there
          (subst (λ i. ArePlaces names (set_of name_cmp (drop i (map (λ n. n.now) items))) c.names.places) again c.names.invariant.places) c.insert.ensures;
    }

pub place_of-requires-clause-known : goal.place_of-requires-clause-known
place_of-requires-clause-known c =
    let items = c.args.letter.now in
    let some : 0 < c.names.i = c.names-test.true in
    let below = c.names.invariant.below in
    let size : length (map (λ n. n.now) items) ≡ length items = map_length (λ n. n.now) items in
    let within : c.names.i - 1 < length items = omega (arith, some, below) in
    let names = map (λ n. n.now) c.args.names.now in
    subst (Has names) (get_or-map (λ n. n.now) items (c.names.i - 1) _ [] within)
    (all_at (Has names) (map (λ n. n.now) items) _ c.requires.known (Has-at (map (λ n. n.now) items) (c.names.i - 1) [] (omega (arith, within, size))))
