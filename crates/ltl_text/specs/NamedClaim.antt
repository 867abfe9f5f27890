-- The text of a Büchi automaton as a never claim, whose propositions have names. It has no formula, so it has no comment.
use Rattle.std.specs.Prelude.{ℕ, List, ◌++◌, codes}
use Rattle.ltl_spec.specs.Semantics.Word.{Name}
use Rattle.ltl_spec.specs.Automata.Automaton.{Automaton}
use Rattle.ltl_spec.specs.Automata.ClaimText.{line}
use Rattle.ltl_text.specs.Blocks.{blocks_text}

-- its states are written as those of the claim of a formula
abbrev pub named_claim : Automaton → List Name → List ℕ
named_claim B names = line (codes "never {") ++ blocks_text B names ++ line (codes "}")
