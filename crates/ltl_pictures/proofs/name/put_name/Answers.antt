use Rattle.std.proofs.Common.{arith, ap, length-take, take}
use Rattle.ltl_streams.proofs.PrintLaws.{lacks_all, lacks_last, lacks_step}
use Rattle.ltl_pictures.proofs.CutLaws.{cut_text, start_within}
use Rattle.ltl_pictures.proofs.name.put_name.Goals as goal

pub slice_bounds-put_bytes-end : goal.slice_bounds-put_bytes-end
slice_bounds-put_bytes-end g c =
    let short = start_within c.args.name.now 77 in
    let same = c.character_start.ensures in
    let long = c.if-name-gt-LONGEST.true in
    let taken = length-take c.character_start.result c.args.name.now in
    omega (arith, short, same, long, taken)

pub returns-then-name-gt-LONGEST : goal.returns-then-name-gt-LONGEST
returns-then-name-gt-LONGEST g c =
    let e = cut_text c.args.name.now _ c.if-name-gt-LONGEST.true (ap (λ n. take n c.args.name.now) c.character_start.ensures) in
    lacks_last (lacks_step (lacks_all _ _) _ e c.put_bytes.ensures) c.put.ensures
