use Rattle.std.proofs.Common.{◌≡◌, map}
use Rattle.ltl_automaton.specs.LabelTables.{ranked_edge}
use Rattle.ltl_automaton.proofs.RelabelLaws.{replaced}
use Rattle.ltl_automaton.proofs.edge_list.relabel.Given as goal

abbrev pub invariant-loop-list : goal.invariant-loop-list
invariant-loop-list g l = l.lists ≡ replaced (map (ranked_edge l.ranks)) l.list l.initial.lists
