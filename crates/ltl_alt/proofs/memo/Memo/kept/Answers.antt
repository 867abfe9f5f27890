use Rattle.ltl_alt.proofs.JoinLaws.{kept_of}
use Rattle.ltl_alt.proofs.memo.Memo.kept.Goals as goal

pub returns : goal.returns
returns g c = λ T fit.
    kept_of T c.args.pruning.now.rule c.args.pruning.now.fulfilment.now c.args.self.now.lists.keys c.args.key.now.left c.args.key.now.right c.pairs.result.now c.pairs-2.result.now c.in_ok-pairs.pairs.items fit
    c.pairs.ensures c.pairs-2.ensures c.in_ok-pairs.ensures
