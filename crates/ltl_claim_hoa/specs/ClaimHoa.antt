-- The automaton of a claim's program in the Hanoi Omega-Automata format, version 1.
use Rattle.std.specs.Prelude.{ℕ, ◌+◌, Bool, true, ◌||◌, nat_eq, nat_le, if◌then◌else◌, List, [], ◌++◌, flat_map, None, codes, decimal}
use Rattle.std.specs.List.{list_any, range_with_len}
use Rattle.ltl_spec.specs.Collections.Lists.{place_of}
use Rattle.ltl_spec.specs.Semantics.Word.{Name}
use Rattle.ltl_spec.specs.Formulas.Tokens.{same_name}
use Rattle.ltl_spec.specs.Automata.ClaimText.{line}
use Rattle.ltl_spec.specs.Automata.HoaText.{names_line}
use Rattle.ltl_spec.specs.Hoa.HoaLabel.{Label, ConstantLabel, NumberLabel, NotLabel, BracketLabel, AndLabel, OrLabel, label_rank}
use Rattle.ltl_spec.specs.Claims.ClaimProgram.{Guard, Constant, Named, Not, And, Or, Program}
use Rattle.ltl_spec.specs.Claims.ClaimMeaning.{end, program_names, leads, accepts}
use Rattle.ltl_claim.specs.ClaimView.{statement_moves}

-- in brackets, if its operator binds less tightly than this
abbrev pub tight : ℕ → Label → Label
tight most a = if nat_le (label_rank a) most then a else BracketLabel a

-- the label of a guard has the guard's form, and brackets where it needs them
abbrev pub guard_label : List Name → Guard → Label
guard_label names (Constant b) = ConstantLabel b
guard_label names (Named n) = NumberLabel (place_of same_name n names)
guard_label names (Not g) = NotLabel (tight 0 (guard_label names g))
guard_label names (And g h) = AndLabel (tight 1 (guard_label names g)) (tight 0 (guard_label names h))
guard_label names (Or g h) = OrLabel (guard_label names g) (tight 1 (guard_label names h))

-- a label as it is written
abbrev pub written_label : Label → List ℕ
written_label (ConstantLabel b) = if b then codes "t" else codes "f"
written_label (NumberLabel i) = decimal i
written_label (NotLabel a) = codes "!" ++ written_label a
written_label (BracketLabel a) = codes "(" ++ written_label a ++ codes ")"
written_label (AndLabel a b) = written_label a ++ codes "&" ++ written_label b
written_label (OrLabel a b) = written_label a ++ codes "|" ++ written_label b

abbrev pub guard_text : List Name → Guard → List ℕ
guard_text names g = written_label (guard_label names g)

-- moves under guards, to the states with these numbers
abbrev pub MoveList : Type 0
MoveList = List (Guard × ℕ)

abbrev pub move_line : List Name → Guard × ℕ → List ℕ
move_line names m = line (codes "[" ++ guard_text names m.0 ++ codes "] " ++ decimal m.1)

-- a state begins with its number, and with its set where it accepts
abbrev pub state_line : ℕ → Bool → List ℕ
state_line k accepting = line (codes "State: " ++ decimal k ++ (if accepting then codes " {0}" else []))

-- the closing brace, at which each word is accepted
abbrev pub end_lines : ℕ → List ℕ
end_lines k = state_line k true ++ line (codes "[t] " ++ decimal k)

module _ (P : Program) where
  -- whether the closing brace is a state: the start or a move leads there
  abbrev pub ends_in : Bool
  ends_in = nat_eq (leads P P.start None) (end P) || list_any (λ i. list_any (λ m. nat_eq m.1 (end P)) (statement_moves P i)) (range_with_len 0 (end P))

  abbrev pub state_count : ℕ
  state_count = if ends_in then end P + 1 else end P

  -- a statement, and below it its moves
  abbrev pub statement_lines : ℕ → List ℕ
  statement_lines i = state_line i (accepts P i) ++ flat_map (move_line (program_names P)) (statement_moves P i)

  abbrev pub head_text : List ℕ
  head_text =
      line (codes "HOA: v1")
      ++ line (codes "States: " ++ decimal state_count)
      ++ line (codes "Start: " ++ decimal (leads P P.start None))
      ++ names_line (program_names P)
      ++ line (codes "acc-name: Buchi")
      ++ line (codes "Acceptance: 1 Inf(0)")
      ++ line (codes "properties: trans-labels explicit-labels state-acc")
      ++ line (codes "--BODY--")

  abbrev pub body_text : List ℕ
  body_text = flat_map statement_lines (range_with_len 0 (end P))

  -- the closing brace, if it is a state
  abbrev pub last_lines : Bool → List ℕ
  last_lines ends = if ends then end_lines (end P) else []

  -- the text of the automaton
  abbrev pub claim_hoa_text : List ℕ
  claim_hoa_text = head_text ++ body_text ++ last_lines ends_in ++ line (codes "--END--")
