use Rattle.ltl_word.proofs.WordLaws.{read_once, refused_alone}
use Rattle.ltl_word.proofs.laws.texts_are_read_one_way.Goals as goal

pub returns-clause-once : goal.returns-clause-once
returns-clause-once c = read_once

pub returns-clause-alone : goal.returns-clause-alone
returns-clause-alone c = refused_alone
