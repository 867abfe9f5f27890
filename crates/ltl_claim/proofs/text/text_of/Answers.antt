use Rattle.std.proofs.Common.{length-take, arith}
use Rattle.ltl_claim.proofs.TextLaws.{IsSoFar, more_up_to}
use Rattle.ltl_claim.proofs.text.text_of.Goals as goal

pub returns-in_err-extend_from_slice-in-Ok-clause-bounded : goal.returns-in_err-extend_from_slice-in-Ok-clause-bounded
returns-in_err-extend_from_slice-in-Ok-clause-bounded g c =
    let i = c.pieces.invariant in
    let h : IsSoFar (g.R.ByteSource.state c.args.source.now) (g.R.ByteSource.state c.pieces.source) c.pieces.text.items = record { few = i.few; taken = i.taken; same = i.same; stays = i.stays } in
    let a = c.read.auto.room in
    let m = c.min-room.ensures in
    let t = length-take c.min-room.result c.pieces.chunk in
    let k = c.len-in-pieces.ensures in
    more_up_to (g.R.ByteSource.state c.args.source.now) (g.R.ByteSource.state c.pieces.source) (g.R.ByteSource.state c.read.new.self) c.pieces.text.items h c.in-Ok.count c.read.new.room c.in-Ok.ensures
    (omega (arith, a, t, m, k, c.pieces.text.ok.0))
