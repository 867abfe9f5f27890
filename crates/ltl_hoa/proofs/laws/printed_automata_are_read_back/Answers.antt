use Rattle.ltl_hoa.proofs.PrintedLaws.{printed_reads, answered_back}
use Rattle.ltl_hoa.proofs.laws.printed_automata_are_read_back.Goals as goal

pub returns-clause-reads : goal.returns-clause-reads
returns-clause-reads c = printed_reads

pub returns-clause-answered : goal.returns-clause-answered
returns-clause-answered c = answered_back
