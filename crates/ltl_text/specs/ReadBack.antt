-- What the printed text of an automaton is read as.
use Rattle.std.specs.Prelude.{◌≡◌, ℕ, ◌<◌, ◌≤◌, ◌↔◌, List, length, Result, Some}
use Rattle.ltl_spec.specs.Semantics.Word.{Name, Lasso}
use Rattle.ltl_spec.specs.Semantics.Satisfaction.{Satisfies}
use Rattle.ltl_spec.specs.Formulas.Formula.{Reading}
use Rattle.ltl_spec.specs.Automata.Automaton.{Automaton, Accepts}
use Rattle.ltl_spec.specs.Checking.Check.{MarkedAccepts}
use Rattle.ltl_spec.specs.Claims.ClaimMachine.{claim_program}
use Rattle.ltl_spec.specs.Claims.ClaimMeaning.{ClaimAccepts}
use Rattle.ltl_spec.specs.Claims.ClaimProgram.{Program}
use Rattle.ltl_spec.specs.Hoa.HoaReading.{MarkedAutomaton, stated_form, HoaReadsWithin}
use Rattle.ltl_spec.specs.Tools.Limits.{stated_limits}
use Rattle.ltl_hoa.specs.declared.fault.HoaFault.{HoaFault}
use Rattle.ltl_hoa.specs.Printed.{IsAnswered}
use Rattle.ltl_hoa.specs.Reading.{Answers}

-- it reads as the automaton within the limits
abbrev pub Reads : List ℕ → MarkedAutomaton → Type 0
Reads text M = HoaReadsWithin stated_limits stated_form text M

-- so it does within all limits but that on its length
abbrev pub ReadsAtAnyLength : List ℕ → MarkedAutomaton → Type 0
ReadsAtAnyLength text M = HoaReadsWithin (record stated_limits { hoa_bytes = length text }) stated_form text M

-- a text within the limit reads as the automaton, and is answered so unless a read failed or memory ran out
abbrev pub ReadsBack : List ℕ → MarkedAutomaton → Type 0
ReadsBack text M = length text ≤ stated_limits.hoa_bytes → Reads text M × ((answer : Result MarkedAutomaton HoaFault) → Answers text answer → IsAnswered M answer)

-- what is read accepts the words that this automaton accepts, with these names
abbrev pub ReadsAlike : List ℕ → List Name → Automaton → Type 0
ReadsAlike text names B = (M : MarkedAutomaton) → Reads text M → (w : Lasso) → MarkedAccepts M w ↔ Accepts names B w

-- what is read accepts exactly the words that satisfy the formula
abbrev pub ReadsModels : List ℕ → Reading → Type 0
ReadsModels text R = (M : MarkedAutomaton) → Reads text M → (w : Lasso) → 0 < length w.cycle → MarkedAccepts M w ↔ Satisfies R.names w 0 R.formula

-- the text is a claim that accepts exactly the words that this automaton accepts, with these names
abbrev pub IsClaimOf : List Name → Automaton → List ℕ → Type 0
IsClaimOf names B text = (P : Program) × (claim_program text ≡ Some P) × ((w : Lasso) → 0 < length w.cycle → ClaimAccepts P w ↔ Accepts names B w)
