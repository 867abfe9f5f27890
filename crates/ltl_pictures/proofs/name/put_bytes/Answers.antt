use Rattle.std.proofs.Common.{◌<◌, ap, arith, length}
use Rattle.std.specs.Prelude.{flat_map}
use Rattle.std.proofs.lemmas.List.{drop_more}
use Rattle.ltl_streams.proofs.PrintLaws.{lacks_all, lacks_step, prints_nothing}
use Rattle.ltl_pictures.proofs.PutLaws.{begun_flat}
use Rattle.ltl_pictures.specs.NameText.{shown_byte}
use Rattle.ltl_pictures.proofs.name.put_bytes.Goals as goal

pub loop-byte-init : goal.loop-byte-init
loop-byte-init g c = lacks_step (lacks_all _ _) _ (begun_flat shown_byte c.args.bytes.now) (prints_nothing _)

pub loop-byte-preserved : goal.loop-byte-preserved
loop-byte-preserved g c =
    let lt : c.loop-byte.byte-index < length c.args.bytes.now = omega arith in
    lacks_step c.loop-byte.invariant _ (ap (flat_map shown_byte) (drop_more c.args.bytes.now c.loop-byte.byte-index 0 lt)) c.put_byte.ensures
