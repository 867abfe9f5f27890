use Rattle.ltl_automaton.specs.LabelTables.{HavePlaces}
use Rattle.ltl_automaton.proofs.ranked.ranks.Given as goal

abbrev pub invariant-loop-place : goal.invariant-loop-place
invariant-loop-place g l = HavePlaces l.values.keys l.sorted l.ranks.items l.place
