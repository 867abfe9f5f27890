use Rattle.std.proofs.Common.{arith, map}
use Rattle.std.specs.Prelude.{All}
use Rattle.ltl_automaton.specs.LabelTables.{HasRanks, ranked_edge}
use Rattle.ltl_automaton.proofs.RelabelLaws.{replaced_done, replaced_next, replaced_none, still_there}
use Rattle.ltl_automaton.proofs.edge_list.relabel.Goals as goal

pub loop-list-init : goal.loop-list-init
loop-list-init g c = replaced_none (map (ranked_edge c.args.ranks.now)) c.args.lists.now

pub relabel-requires : goal.relabel-requires
relabel-requires g c =
    let r = c.args.ranks.now in
    still_there (map (ranked_edge r)) (All (HasRanks r)) c.loop-list.list c.args.lists.now c.loop-list.lists c.index-lists-list.result c.loop-list.invariant c.loop-list-test.true c.requires

pub loop-list-preserved : goal.loop-list-preserved
loop-list-preserved g c =
    replaced_next (map (ranked_edge c.args.ranks.now)) c.loop-list.list c.args.lists.now c.loop-list.lists c.index-lists-list.result c.relabel.new.self c.loop-list.invariant c.loop-list-test.true c.relabel.ensures

pub returns : goal.returns
returns g c = replaced_done (map (ranked_edge c.args.ranks.now)) c.loop-list.list c.args.lists.now c.loop-list.lists c.loop-list.invariant (omega (arith, c.loop-list-test.false))
