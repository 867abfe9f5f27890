use Rattle.std.proofs.Common.{arith, length-drop}
use Rattle.std.proofs.lemmas.List.{take_rest}
use Rattle.ltl_streams.proofs.StreamLemmas.{takes_more}
use Rattle.ltl_streams.proofs.writing.write_whole.Goals as goal

pub pieces-preserved : goal.pieces-preserved
pieces-preserved g c =
    let rest = take_rest c.args.bytes.now c.pieces.at in
    let taken = rw rest at c.in_ok-at.ensures in
    let bound = taken.bound in
    record {
      in_range = omega (arith, bound, length-drop c.pieces.at c.args.bytes.now);
      written = takes_more c.args.bytes.now c.pieces.at c.in_ok-at.field-0 c.pieces.invariant.written taken;
    }
