-- The passes in a row, on the automata of the definitions.
use Rattle.ltl_spec.specs.Automata.Automaton.{Automaton}
use Rattle.ltl_spec.specs.Construction.Translation.{Options}
use Rattle.ltl_spec.specs.Construction.Merging.{merged_automaton}
use Rattle.ltl_spec.specs.Construction.Levels.{level_automaton}
use Rattle.ltl_spec.specs.Construction.Renumbered.{renumbered_automaton}

-- the automaton, merged as these options ask
abbrev pub merged_of : Options → Automaton → Automaton
merged_of o A = merged_automaton o.keep_implied o.keep_equal A

-- merged, degeneralized, merged again and renumbered
abbrev pub buchi_of : Options → Automaton → Automaton
buchi_of o A = renumbered_automaton (merged_of o (level_automaton (merged_of o A)))
