use Rattle.ltl_alt.specs.Tests.{step_of}
use Rattle.ltl_alt.proofs.WantedLaws.{more_leaves}
use Rattle.ltl_alt.proofs.wanted.lack_leaf.Goals as goal

pub returns-in-Reads : goal.returns-in-Reads
returns-in-Reads g c = more_leaves c.args.leaves.now (step_of c.args.step) c.args.lacks.now.items c.args.pairs.now c.lack_more.new.lacks.items c.lack_more.ensures
