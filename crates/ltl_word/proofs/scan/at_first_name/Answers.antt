use Rattle.ltl_word.proofs.ScanLaws.{close_first}
use Rattle.ltl_word.proofs.scan.at_first_name.Goals as goal

pub returns-then-text-at-eq125-clause-next : goal.returns-then-text-at-eq125-clause-next
returns-then-text-at-eq125-clause-next g c = close_first c.args.text.now c.args.at _ c.args.written.now c.clear.new.self c.close.new.self c.if-text-at-eq125.true c.clear.ensures c.in_ok-close.ensures
