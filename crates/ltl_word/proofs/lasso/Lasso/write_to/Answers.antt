use Rattle.std.proofs.Common.{rules}
use Rattle.ltl_streams.proofs.PrintLaws.{printed_err, printed_ok}
use Rattle.ltl_word.proofs.lasso.Lasso.write_to.Goals as goal

pub returns-clause-ok : goal.returns-clause-ok
returns-clause-ok g c = printed_ok c.new-out.ensures.whole c.new-out.ensures.empty c.new-out.ensures.now c.put.ensures _ c.end.ensures.ends (search rules)

pub returns-clause-err : goal.returns-clause-err
returns-clause-err g c = printed_err c.new-out.ensures.whole c.new-out.ensures.empty c.new-out.ensures.now c.put.ensures _ c.end.ensures.ends (search rules)
