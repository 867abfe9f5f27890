use Rattle.std.proofs.Common.{◌∙◌, ◌<◌, ap, arith, length, refl, string_bytes}
use Rattle.ltl_streams.proofs.PrintLaws.{lacks_step, prints_as}
use Rattle.ltl_text.proofs.HoaLaws.{viewed_go_on}
use Rattle.ltl_text.proofs.named.put_quoted.Goals as goal

pub loop-k-preserved : goal.loop-k-preserved
loop-k-preserved g c =
    let lt : c.loop-k.k < length c.args.names.now = omega arith in
    let opened = lacks_step c.loop-k.invariant _ (viewed_go_on string_bytes c.args.names.now c.loop-k.k c.index-names-k.result lt) c.put.ensures in
    let name = prints_as (c.as_bytes.ensures.value ∙ ap string_bytes c.index-names-k.is) c.put-in-loop-k.ensures in
    lacks_step (lacks_step opened _ refl name) _ refl c.put-in-loop-k-2.ensures
