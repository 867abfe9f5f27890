use Rattle.std.proofs.Common.{sym, arith}
use Rattle.std.specs.Prelude.{◌==◌}
use Rattle.std.proofs.lemmas.List.Sums.{prefix_len_is}
use Rattle.ltl_automaton.specs.CodedEdges.{edges_in}
use Rattle.ltl_models.specs.BaView.{target_at}
use Rattle.ltl_text.proofs.EdgeLaws.{no_edge, other_is}
use Rattle.ltl_text.proofs.options.group_len.Goals as goal

pub returns-else-edges-places-clause-group : goal.returns-else-edges-places-clause-group
returns-else-edges-places-clause-group c =
    let within = c.requires c.group.len 0 c.group-test.true in
    sym (prefix_len_is (λ p. target_at (edges_in c.args.edges.now) p == c.args.target) c.args.places.now c.group.len 0 c.group.invariant.within c.group.invariant.same
    (λ lt. other_is c.args.edges.now _ no_edge within c.args.target c.if-edges-places.false))

pub returns-after-group-clause-group : goal.returns-after-group-clause-group
returns-after-group-clause-group c =
    sym (prefix_len_is (λ p. target_at (edges_in c.args.edges.now) p == c.args.target) c.args.places.now c.group.len 0 c.group.invariant.within c.group.invariant.same
    (λ lt. absurd (omega arith)))
