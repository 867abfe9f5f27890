use Rattle.std.proofs.Common.{rules}
use Rattle.ltl_streams.proofs.PrintLaws.{printed_err, printed_ok}
use Rattle.ltl_cli.proofs.MessageLaws.{ended_short, ended_whole}
use Rattle.ltl_cli.proofs.check.print.Goals as goal

pub returns-clause-ok : goal.returns-clause-ok
returns-clause-ok g c =
    ended_whole c.flushed.result c.end.result _ _ _ _ c.flushed.ensures.ok (printed_ok c.new-out.ensures.whole c.new-out.ensures.empty c.new-out.ensures.now c.put.ensures _ c.end.ensures.ends (search rules))

pub returns-clause-err : goal.returns-clause-err
returns-clause-err g c =
    ended_short c.flushed.result c.end.result _ _ _ _ c.flushed.ensures.err (printed_ok c.new-out.ensures.whole c.new-out.ensures.empty c.new-out.ensures.now c.put.ensures _ c.end.ensures.ends (search rules))
    (printed_err c.new-out.ensures.whole c.new-out.ensures.empty c.new-out.ensures.now c.put.ensures _ c.end.ensures.ends (search rules))
