use Rattle.ltl_spec.proofs.Words.UniqueLaws.{least_forms_same}
use Rattle.ltl_word.proofs.WordLaws.{least_truth}
use Rattle.ltl_word.proofs.laws.least_forms_keep_truth.Goals as goal

pub returns-clause-one : goal.returns-clause-one
returns-clause-one c = least_forms_same

pub returns-clause-truth : goal.returns-clause-truth
returns-clause-truth c = least_truth
