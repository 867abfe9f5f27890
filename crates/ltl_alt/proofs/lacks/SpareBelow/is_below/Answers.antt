use Rattle.ltl_alt.proofs.SpareLaws.{replaces_by_test}
use Rattle.ltl_alt.proofs.lacks.SpareBelow.is_below.Goals as goal

pub returns-then-is_within : goal.returns-then-is_within
returns-then-is_within c = replaces_by_test c.args.self.now c.args.other.now.pair c.by.result c.is_within.result c.shares_some.result c.if-is_within.true c.is_within.ensures c.by.ensures c.shares_some.ensures
