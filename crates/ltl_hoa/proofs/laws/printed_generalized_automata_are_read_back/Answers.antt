use Rattle.ltl_hoa.proofs.PrintedLaws.{generalized_printed, generalized_answered}
use Rattle.ltl_hoa.proofs.laws.printed_generalized_automata_are_read_back.Goals as goal

pub returns-clause-reads : goal.returns-clause-reads
returns-clause-reads c = generalized_printed

pub returns-clause-answered : goal.returns-clause-answered
returns-clause-answered c = generalized_answered
