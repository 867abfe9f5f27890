use Rattle.std.proofs.Common.{refl, inr, arith, length-take}
use Rattle.ltl_cli.proofs.StreamLaws.{read_to_end, taken_to_limit, went_on}
use Rattle.ltl_cli.proofs.input.read_text.Goals as goal

pub returns-in-Ok-eq0-clause-text : goal.returns-in-Ok-eq0-clause-text
returns-in-Ok-eq0-clause-text g c =
    read_to_end c.args.most (g.R.ByteSource.state c.args.reader.now) _ c.pieces.text.items c.pieces.invariant.taken _ _ _ c.in-Ok-eq0.ensures c.in-Ok-eq0.field-0-test
    (omega (arith, length-take c.min-room.result c.pieces.chunk)) (omega arith)

pub returns-in-Err-extend_from_slice-clause-ways : goal.returns-in-Err-extend_from_slice-clause-ways
returns-in-Err-extend_from_slice-clause-ways g c =
    let read = c.in-Ok.ensures in
    inr (
      refl,
      went_on c.args.most (g.R.ByteSource.state c.args.reader.now) _ c.pieces.text.items c.pieces.invariant.taken _ _ _ read
          (omega (arith, read.bound, c.read.auto.room, length-take c.min-room.result c.pieces.chunk)),
    )

pub returns-clause-text : goal.returns-clause-text
returns-clause-text g c = taken_to_limit c.args.most _ _ c.pieces.text.items (omega arith) c.pieces.invariant.taken
