use Rattle.ltl_streams.proofs.PrintLaws.{prints_as, prints_then}
use Rattle.ltl_comparison.proofs.answer.put.Goals as goal

pub returns : goal.returns
returns g c = prints_then (prints_then (prints_as c.relation.ensures c.put.ensures) c.put_word.ensures) c.put_word-2.ensures
