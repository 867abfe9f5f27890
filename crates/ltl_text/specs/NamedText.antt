-- The text of an automaton with acceptance sets on edges, whose propositions have names. It has no formula, so it has no line `name:`.
use Rattle.std.specs.Prelude.{ℕ, List, ◌++◌, flat_map, length, codes, decimal}
use Rattle.std.specs.List.{range_with_len}
use Rattle.ltl_spec.specs.Semantics.Word.{Name}
use Rattle.ltl_spec.specs.Automata.Automaton.{Automaton}
use Rattle.ltl_spec.specs.Automata.ClaimText.{line}
use Rattle.ltl_spec.specs.Automata.HoaText.{names_line}
use Rattle.ltl_spec.specs.Automata.GeneralizedText.{acceptance_name, acceptance_text, marked_state_lines}

-- its states and edges are written as those of a generalized automaton
abbrev pub named_text : Automaton → List Name → List ℕ
named_text A names =
    line (codes "HOA: v1")
    ++ line (codes "States: " ++ decimal (length A.states))
    ++ line (codes "Start: 0")
    ++ names_line names
    ++ line (codes "acc-name: " ++ acceptance_name A.sets)
    ++ line (codes "Acceptance: " ++ acceptance_text A.sets)
    ++ line (codes "properties: trans-labels explicit-labels trans-acc")
    ++ line (codes "--BODY--")
    ++ flat_map (marked_state_lines A) (range_with_len 0 (length A.states))
    ++ line (codes "--END--")
