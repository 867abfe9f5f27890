use Rattle.ltl_spec.specs.Tools.Limits.{stated_limits}
use Rattle.ltl_spec.specs.Hoa.HoaReading.{stated_form}
use Rattle.ltl_spec.proofs.Hoa.HoaBackLaws.{reads_exactly}
use Rattle.ltl_spec.proofs.Hoa.HoaLaws.{one_automaton}
use Rattle.ltl_hoa.proofs.PrintedLaws.{answered_alone}
use Rattle.ltl_hoa.proofs.laws.texts_are_read_one_way.Goals as goal

pub returns-clause-exactly : goal.returns-clause-exactly
returns-clause-exactly c = reads_exactly stated_limits stated_form

pub returns-clause-once : goal.returns-clause-once
returns-clause-once c = one_automaton stated_limits stated_form

pub returns-clause-alone : goal.returns-clause-alone
returns-clause-alone c = answered_alone
