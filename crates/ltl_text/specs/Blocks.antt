-- The text of a never claim, by states.
use Rattle.std.specs.Prelude.{ℕ, not, ◌==◌, List, ◌++◌}
use Rattle.std.specs.List.{filter, flat_map}
use Rattle.ltl_spec.specs.Semantics.Word.{Name}
use Rattle.ltl_spec.specs.Automata.Automaton.{Automaton}
use Rattle.ltl_spec.specs.Automata.ClaimText.{block, numbers, skip_state}

-- the blocks of all states but the skipping one
abbrev pub others_text : Automaton → List Name → List ℕ
others_text B names = flat_map (block B names) (filter (λ k. not (k == skip_state B)) (numbers B))

-- and then that of the skipping one, where there is one
abbrev pub blocks_text : Automaton → List Name → List ℕ
blocks_text B names = others_text B names ++ flat_map (block B names) (filter (λ k. k == skip_state B) (numbers B))
