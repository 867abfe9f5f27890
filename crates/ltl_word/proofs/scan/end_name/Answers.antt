use Rattle.ltl_word.proofs.ScanLaws.{close_name}
use Rattle.ltl_word.proofs.scan.end_name.Goals as goal

pub returns-then-byte-eq125-clause-next : goal.returns-then-byte-eq125-clause-next
returns-then-byte-eq125-clause-next g c = close_name c.args.written.now c.push-then-byte-eq125.new.self c.close.new.self c.args.name.now c.args.byte c.if-byte-eq125.true c.in_ok-push-2.ensures c.in_ok-close.ensures
