use Rattle.ltl_syntax.proofs.ReadLemmas.{read_once, refused_alone}
use Rattle.ltl_syntax.proofs.laws.texts_are_read_one_way.Goals as goal

pub returns-clause-once : goal.returns-clause-once
returns-clause-once c = read_once

pub returns-clause-alone : goal.returns-clause-alone
returns-clause-alone c = refused_alone
