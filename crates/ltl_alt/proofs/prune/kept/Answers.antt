use Rattle.std.proofs.lemmas.Result.{IfOk-weaker}
use Rattle.ltl_alt.specs.StandIns.{AreKept, IsPrunedSafely}
use Rattle.ltl_alt.proofs.PruneLaws.{kept_safely, none_dropped}
use Rattle.ltl_alt.proofs.prune.kept.Goals as goal

pub returns-in-Duplicate : goal.returns-in-Duplicate
returns-in-Duplicate g c = none_dropped c.args.pruning.now.rule c.args.pruning.now.fulfilment.now c.args.pairs.items

pub returns-in-SafelySubsumed : goal.returns-in-SafelySubsumed
returns-in-SafelySubsumed g c =
    let r = c.args.pruning.now.rule in
    let f = c.args.pruning.now.fulfilment.now in
    let ps = c.args.pairs.items in
    let counted = c.in-SafelySubsumed.counted in
    IfOk-weaker c.pruned_safely.result (λ v. IsPrunedSafely f counted ps v.items) (λ v. AreKept r f ps v.items) (λ v w. kept_safely r f counted ps v.items c.in-SafelySubsumed.is w) c.pruned_safely.ensures
