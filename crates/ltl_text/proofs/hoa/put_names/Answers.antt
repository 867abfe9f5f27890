use Rattle.std.proofs.Common.{◌∙◌, ◌<◌, arith, length, refl}
use Rattle.ltl_streams.proofs.PrintLaws.{lacks_step, prints_as}
use Rattle.ltl_text.proofs.HoaLaws.{names_go_on}
use Rattle.ltl_text.proofs.hoa.put_names.Goals as goal

pub loop-k-preserved : goal.loop-k-preserved
loop-k-preserved g c =
    let lt : c.loop-k.k < length c.args.formula.now.names = omega arith in
    let name = prints_as (c.as_bytes.ensures.value ∙ c.name.ensures) c.put-in-loop-k.ensures in
    let opened = lacks_step c.loop-k.invariant _ (names_go_on c.args.formula.now.names c.loop-k.k lt) c.put.ensures in
    lacks_step (lacks_step opened _ refl name) _ refl c.put-in-loop-k-2.ensures
