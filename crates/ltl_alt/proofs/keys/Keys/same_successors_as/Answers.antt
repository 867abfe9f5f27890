use Rattle.std.proofs.Common.{[], map}
use Rattle.ltl_alt.specs.FinalView.{AreFactorsOf, made_of}
use Rattle.ltl_alt.specs.KeyView.{IsKeyOf}
use Rattle.ltl_alt.specs.TransitionView.{table_at}
use Rattle.ltl_alt.proofs.KeyLaws.{keys_longer, same_transitions_of}
use Rattle.ltl_alt.proofs.ProductLaws.{numbers_inside, set_shape}
use Rattle.ltl_alt.proofs.keys.Keys.same_successors_as.Goals as goal

pub factors-requires-clause-inside : goal.factors-requires-clause-inside
factors-requires-clause-inside g c =
    let b = c.args.basis.now in
    numbers_inside b.conjuncts.owners.items b.conjuncts.lists.items c.args.state.now c.in-Some.all c.requires.basis.conjuncts.rows.owner_count c.in-Some.ensures.0

pub returns-clause-keys : goal.returns-clause-keys
returns-clause-keys g c =
    let b = c.args.basis.now in
    let T = table_at b.table.now in
    let new = c.factors.new.self.lists.keys in
    let found : AreFactorsOf b new c.in-Some.all c.in_ok-key.key.items [] = c.in_ok-key.ensures.factors in
    let shape = set_shape b.table.now b.keep_implied b.pruning.rule b.pruning.fulfilment.now b.conjuncts.made b.conjuncts.owners.items b.conjuncts.lists.items b.conjuncts.dependencies.items b.conjuncts.links.items c.requires.basis c.args.state.now c.in-Some.all
    c.invariant.ensures.rising c.in-Some.ensures.1 c.in-Some.ensures.0 (map (made_of new) c.in_ok-key.key.items) found.1 in
    let is : IsKeyOf T b.keep_implied new c.in_ok-key.key.items c.args.state.now = record { within = found.0; transitions = shape } in
    c.first.ensures.keys T b.keep_implied new is (keys_longer T b.keep_implied c.args.finals.now.lists.keys new c.args.self.now.states.entries c.in_ok-key.ensures.longer c.requires.keys)

pub returns-clause-same_successors_as : goal.returns-clause-same_successors_as
returns-clause-same_successors_as g c =
    let b = c.args.basis.now in
    let T = table_at b.table.now in
    let new = c.factors.new.self.lists.keys in
    let found : AreFactorsOf b new c.in-Some.all c.in_ok-key.key.items [] = c.in_ok-key.ensures.factors in
    let shape = set_shape b.table.now b.keep_implied b.pruning.rule b.pruning.fulfilment.now b.conjuncts.made b.conjuncts.owners.items b.conjuncts.lists.items b.conjuncts.dependencies.items b.conjuncts.links.items c.requires.basis c.args.state.now c.in-Some.all
    c.invariant.ensures.rising c.in-Some.ensures.1 c.in-Some.ensures.0 (map (made_of new) c.in_ok-key.key.items) found.1 in
    let is : IsKeyOf T b.keep_implied new c.in_ok-key.key.items c.args.state.now = record { within = found.0; transitions = shape } in
    same_transitions_of T b.keep_implied new c.in_ok-key.key.items c.args.state.now c.first.result is (c.first.ensures.first T b.keep_implied new (keys_longer T b.keep_implied c.args.finals.now.lists.keys new c.args.self.now.states.entries c.in_ok-key.ensures.longer c.requires.keys))
