use Rattle.std.proofs.Common.{◌∙◌, ◌<◌, ap, sym, arith, length, map, []}
use Rattle.std.proofs.lemmas.List.{get_or-map}
use Rattle.ltl_spec.proofs.Collections.MemberLaws.{map_length}
use Rattle.ltl_word.proofs.NameLaws.{known_letter, all_places_push}
use Rattle.ltl_word.proofs.BitLemmas.{count_push}
use Rattle.ltl_word.proofs.making.all_places.Goals as goal

pub places-requires-clause-known : goal.places-requires-clause-known
places-requires-clause-known g c =
    let items = c.args.letters.now in
    let within : c.loop-i.i < length items = c.loop-i-test.true in
    let size = map_length (λ a. map (λ n. n.now) a.items) items in
    known_letter (map (λ n. n.now) c.args.names.now) (map (λ a. map (λ n. n.now) a.items) items) (map (λ n. n.now) c.as_slice.result.now) c.loop-i.i c.requires.known (omega (arith, within, size))
    (get_or-map (λ a. map (λ n. n.now) a.items) items c.loop-i.i c.index-letters-i.result [] within ∙ ap (λ a. map (λ n. n.now) a.items) (sym c.index-letters-i.is) ∙ ap (map (λ n. n.now)) (sym c.as_slice.ensures))

pub loop-i-preserved : goal.loop-i-preserved
loop-i-preserved g c =
    let items = c.args.letters.now in
    let within : c.loop-i.i < length items = c.loop-i-test.true in
    let size = map_length (λ a. map (λ n. n.now) a.items) items in
    record {
      count = count_push c.loop-i.rows.items c.places.result c.push.new.self.items c.loop-i.i c.in_ok-push.ensures.items c.loop-i.invariant.count;
      each = all_places_push (map (λ n. n.now) c.args.names.now) (map (λ a. map (λ n. n.now) a.items) items) c.loop-i.rows.items c.push.new.self.items (map (λ n. n.now) c.as_slice.result.now) c.places.result c.loop-i.i (omega (arith, within, size))
          (get_or-map (λ a. map (λ n. n.now) a.items) items c.loop-i.i c.index-letters-i.result [] within ∙ ap (λ a. map (λ n. n.now) a.items) (sym c.index-letters-i.is) ∙ ap (map (λ n. n.now)) (sym c.as_slice.ensures))
          c.loop-i.invariant.count c.loop-i.invariant.each c.places.ensures c.in_ok-push.ensures.items;
    }
