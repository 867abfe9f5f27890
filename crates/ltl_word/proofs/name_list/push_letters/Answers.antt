use Rattle.std.proofs.Common.{◌∙◌, ◌<◌, ap, sym, arith, length, map, []}
use Rattle.std.proofs.lemmas.List.{get_or-map, map-append}
use Rattle.ltl_spec.proofs.Collections.MemberLaws.{map_length}
use Rattle.ltl_word.proofs.NameLaws.{names_more}
use Rattle.ltl_word.proofs.name_list.push_letters.Goals as goal

pub loop-i-preserved : goal.loop-i-preserved
loop-i-preserved g c =
    let items = c.args.letters.now in
    let within : c.loop-i.i < length items = c.loop-i-test.true in
    let size = map_length (λ a. map (λ n. n.now) a.items) items in
    names_more (map (λ n. n.now) c.args.names.now.items) (map (λ n. n.now) c.loop-i.names.items) _ (map (λ n. n.now) c.as_slice.result.now) (map (λ a. map (λ n. n.now) a.items) items) c.loop-i.i (omega (arith, within, size))
    (get_or-map (λ a. map (λ n. n.now) a.items) items c.loop-i.i c.index-letters-i.result [] within ∙ ap (λ a. map (λ n. n.now) a.items) (sym c.index-letters-i.is) ∙ ap (map (λ n. n.now)) (sym c.as_slice.ensures))
    c.loop-i.invariant (ap (map (λ n. n.now)) c.in_ok-extend_from_slice.ensures.items ∙ map-append (λ n. n.now) c.loop-i.names.items c.as_slice.result.now)
