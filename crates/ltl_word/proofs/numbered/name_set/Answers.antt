use Rattle.std.proofs.Common.{arith, map, sym, []}
use Rattle.std.proofs.lemmas.List.{get_or-map}
use Rattle.ltl_spec.proofs.Collections.MemberLaws.{map_length}
use Rattle.ltl_word.proofs.NameLaws.{one_name_more}
use Rattle.ltl_word.proofs.numbered.name_set.Goals as goal

pub loop-i-preserved : goal.loop-i-preserved
loop-i-preserved g c =
    let items = c.args.names.now in
    let within = c.loop-i-test.true in
    let size = map_length (λ n. n.now) items in
    one_name_more c.loop-i.set.items c.push.new.self.items c.as_bytes.result (map (λ n. n.now) items) c.loop-i.i _ (omega (arith, within, size)) c.in_ok-push.ensures.items c.loop-i.invariant
    (sym (get_or-map (λ n. n.now) items c.loop-i.i _ [] within)) c.as_bytes.ensures.value
