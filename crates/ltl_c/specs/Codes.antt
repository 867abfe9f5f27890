-- The encoding of refusals as numbers for C.
use Rattle.std.specs.Prelude.{ℕ, List, [], ◌∷◌, Option, Some, None, option_map, position, slice_get, slice_index_or}
use Rattle.std.specs.Option.{unwrap_or}
use Rattle.std.specs.Str.{bytes_eq}
use Rattle.ltl_spec.specs.Formulas.Fault.{FaultKind, UnexpectedByte, ExpectedOperand, ExpectedOperatorOrEnd, ExpectedCloseOrOperator}
use Rattle.ltl_spec.specs.Hoa.HoaFaultKind.{HoaFaultKind, NotHoaVersion1, BadToken, ItemTwice, ItemMissing, UnknownItem, Unsupported, NumberOutOfRange, BadPropositionList, StateDefinedTwice, TextAfterEnd, LimitPassed, hoa_fault_text}
use Rattle.ltl_spec.specs.Tools.Limits.{stated_limits}
use Rattle.ltl_spec.specs.Tools.Refusal.{Tool, Translator, Checker, Evaluator, message, Refusal, Usage, CannotOpen, CannotRead, CannotWrite, OutOfMemory, LongFormula, TooManyPropositions, TooManyRows, TooManyElementaryRows, LargeAutomaton, LongWord, LargeProduct, BadFormula, BadWord, BadAutomaton, fault_text}
use Rattle.ltl_spec.specs.Tools.Comparer.{Subject, First, Second, Other, comparer_message}
use Rattle.ltl_draw.specs.Messages.{draw_message}
use Rattle.ltl_reduction.specs.Messages.{reduce_message}
use Rattle.ltl_c.specs.declared.refusal_code.RefusalCode.{RefusalCode}
use Rattle.ltl_c.specs.declared.subject.Subject as code

-- the faults of a formula and of an automaton, by number

abbrev pub formula_faults : List FaultKind
formula_faults = UnexpectedByte ∷ ExpectedOperand ∷ ExpectedOperatorOrEnd ∷ ExpectedCloseOrOperator ∷ []

abbrev pub automaton_faults : List HoaFaultKind
automaton_faults = NotHoaVersion1 ∷ BadToken ∷ ItemTwice ∷ ItemMissing ∷ UnknownItem ∷ Unsupported ∷ NumberOutOfRange ∷ BadPropositionList
    ∷ StateDefinedTwice ∷ TextAfterEnd ∷ LimitPassed ∷ []

-- the refusals by number, with this fault and this place; none has the number 0
abbrev pub refusals : ℕ → ℕ → List (Option Refusal)
refusals fault place = None ∷ Some Usage ∷ Some OutOfMemory ∷ Some LongFormula ∷ option_map (BadFormula place) (slice_get formula_faults fault)
    ∷ Some TooManyPropositions ∷ Some TooManyRows ∷ Some TooManyElementaryRows ∷ Some LargeAutomaton ∷ Some LongWord ∷ Some (BadWord place)
    ∷ option_map (BadAutomaton place) (slice_get automaton_faults fault) ∷ Some LargeProduct ∷ Some CannotOpen ∷ Some CannotRead ∷ Some CannotWrite ∷ []

-- the refusal with this code, if there is one. Numbers that it doesn't have may be any
abbrev pub refusal_in : RefusalCode → Option Refusal
refusal_in c = slice_index_or (refusals c.fault c.place) c.kind None

-- the number of a fault: its place in the list, by its text

abbrev pub formula_fault_number : FaultKind → ℕ
formula_fault_number kind = unwrap_or (position (λ k. bytes_eq (fault_text k) (fault_text kind)) formula_faults) 0

abbrev pub automaton_fault_number : HoaFaultKind → ℕ
automaton_fault_number kind = unwrap_or (position (λ k. bytes_eq (hoa_fault_text k) (hoa_fault_text kind)) automaton_faults) 0

abbrev pub code_with : ℕ → ℕ → ℕ → RefusalCode
code_with kind fault place = record { kind = kind; fault = fault; place = place }

-- the code that a call reports for this refusal, or for none: all numbers are 0 but those that the refusal has
abbrev pub code_for : Option Refusal → RefusalCode
code_for None = code_with 0 0 0
code_for (Some Usage) = code_with 1 0 0
code_for (Some OutOfMemory) = code_with 2 0 0
code_for (Some LongFormula) = code_with 3 0 0
code_for (Some (BadFormula place kind)) = code_with 4 (formula_fault_number kind) place
code_for (Some TooManyPropositions) = code_with 5 0 0
code_for (Some TooManyRows) = code_with 6 0 0
code_for (Some TooManyElementaryRows) = code_with 7 0 0
code_for (Some LargeAutomaton) = code_with 8 0 0
code_for (Some LongWord) = code_with 9 0 0
code_for (Some (BadWord place)) = code_with 10 0 place
code_for (Some (BadAutomaton line kind)) = code_with 11 (automaton_fault_number kind) line
code_for (Some LargeProduct) = code_with 12 0 0
code_for (Some CannotOpen) = code_with 13 0 0
code_for (Some CannotRead) = code_with 14 0 0
code_for (Some CannotWrite) = code_with 15 0 0

-- what a refusal of the comparer is about, by number
abbrev pub subject_number : Subject → ℕ
subject_number Other = 0
subject_number First = 1
subject_number Second = 2

abbrev pub subject_in : code.Subject → Subject
subject_in code.TheVariants.Other = Other
subject_in code.TheVariants.First = First
subject_in code.TheVariants.Second = Second

-- ---- lines

-- a program; the comparer with what a refusal is about
pub data Program : Type 0 where
  Plain : Tool → Program
  Comparer : Subject → Program
  Drawer : Program
  Reducer : Program

-- the programs by number
abbrev pub program_numbered : ℕ → Option Program
program_numbered n = slice_get (Plain Translator ∷ Plain Checker ∷ Plain Evaluator ∷ Comparer Other ∷ Comparer First ∷ Comparer Second ∷ Drawer ∷ Reducer ∷ []) n

-- the line that a program prints for a refusal
abbrev pub program_line : Program → Refusal → List ℕ
program_line (Plain tool) refusal = message stated_limits tool refusal
program_line (Comparer subject) refusal = comparer_message stated_limits subject refusal
program_line Drawer refusal = draw_message refusal
program_line Reducer refusal = reduce_message refusal

-- the same; empty if there is no program or no refusal
abbrev pub line_with : Option Program → Option Refusal → List ℕ
line_with (Some program) (Some refusal) = program_line program refusal
line_with _ _ = []

abbrev pub line_numbered : ℕ → RefusalCode → List ℕ
line_numbered program code = line_with (program_numbered program) (refusal_in code)
