use Rattle.std.proofs.Common.{◌<◌, arith, length, refl}
use Rattle.ltl_alt.specs.TransitionView.{table_at}
use Rattle.ltl_alt.proofs.StepListLaws.{lists_more, made_more, made_now}
use Rattle.ltl_alt.proofs.step_lists.StepLists.list_if.Goals as goal

pub returns-clause-lists : goal.returns-clause-lists
returns-clause-lists g c =
    let count = c.requires.lists.count in
    let within = c.requires.within in
    let inside : c.args.step < length c.args.self.now.lists.items = omega arith in
    lists_more c.args.self.now.lists.items _ c.args.step c.in_ok-pairs.pairs inside refl (table_at c.args.context.now.table.now) c.args.context.now.pruning.rule c.args.context.now.program.now.steps.keys c.in_ok-pairs.ensures c.requires.lists

pub returns-clause-more : goal.returns-clause-more
returns-clause-more g c =
    let count = c.requires.lists.count in
    let within = c.requires.within in
    let inside : c.args.step < length c.args.self.now.lists.items = omega arith in
    made_more c.args.self.now.lists.items _ c.args.step c.in_ok-pairs.pairs inside refl

pub returns-clause-made : goal.returns-clause-made
returns-clause-made g c =
    let count = c.requires.lists.count in
    let within = c.requires.within in
    let inside : c.args.step < length c.args.self.now.lists.items = omega arith in
    λ _. made_now c.args.self.now.lists.items _ c.args.step c.in_ok-pairs.pairs inside refl
