use Rattle.std.proofs.Common.{arith}
use Rattle.ltl_pictures.proofs.NameLaws.{fold_end, fold_next}
use Rattle.ltl_pictures.proofs.propositions.put_names.Goals as goal

pub loop-i-preserved : goal.loop-i-preserved
loop-i-preserved g c = fold_next c.args.more.now c.loop-i.i _ _ c.loop-i.invariant _ _ (omega arith) c.in_ok-put_name.ensures

pub returns : goal.returns
returns g c = fold_end c.args.more.now c.loop-i.i _ _ c.loop-i.invariant (omega arith)
