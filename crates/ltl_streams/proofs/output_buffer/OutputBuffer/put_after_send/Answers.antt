use Rattle.ltl_streams.proofs.StreamLemmas.{breaks_first}
use Rattle.ltl_streams.proofs.SendLaws.{begins_stops, puts_more, puts_stopped}
use Rattle.ltl_streams.proofs.output_buffer.OutputBuffer.put_after_send.Goals as goal

pub returns-in_err-send : goal.returns-in_err-send
returns-in_err-send g c =
    puts_stopped _ _ _ _ _ _ c.from_residual.ensures.0 (begins_stops _ _ _ _ (breaks_first c.args.bytes.now c.in_err-send.ensures.failed))

pub returns : goal.returns
returns g c =
    rw c.in_ok-send.ensures.empty (puts_more _ _ _ _ _ _ c.in_ok-send.ensures.sent c.write_whole.ensures.ok c.write_whole.ensures.err)
