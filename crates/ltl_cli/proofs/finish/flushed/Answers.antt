use Rattle.ltl_cli.proofs.MessageLaws.{flush_fails, flushes_all}
use Rattle.ltl_cli.proofs.finish.flushed.Goals as goal

pub returns-clause-ok : goal.returns-clause-ok
returns-clause-ok g c = rw c.in_ok-written.was (flushes_all _ _ _ c.flush.ensures)

pub returns-clause-err : goal.returns-clause-err
returns-clause-err g c = rw c.in_ok-written.was (flush_fails _ _ _ c.flush.ensures)
