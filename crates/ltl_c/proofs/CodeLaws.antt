-- A code tells its refusal.
use Rattle.std.proofs.Common.{◌≡◌, refl, Option, Some, None}
use Rattle.ltl_spec.specs.Formulas.Fault as formula
use Rattle.ltl_spec.specs.Hoa.HoaFaultKind as hoa
use Rattle.ltl_spec.specs.Tools.Refusal.{Refusal, Usage, CannotOpen, CannotRead, CannotWrite, OutOfMemory, LongFormula, TooManyPropositions, TooManyRows, TooManyElementaryRows, LargeAutomaton, LongWord, LargeProduct, BadFormula, BadWord, BadAutomaton}
use Rattle.ltl_c.specs.Codes.{code_for, refusal_in}

pub code_read : (reason : Option Refusal) → refusal_in (code_for reason) ≡ reason
code_read None = refl
code_read (Some Usage) = refl
code_read (Some OutOfMemory) = refl
code_read (Some LongFormula) = refl
code_read (Some (BadFormula place formula.UnexpectedByte)) = refl
code_read (Some (BadFormula place formula.ExpectedOperand)) = refl
code_read (Some (BadFormula place formula.ExpectedOperatorOrEnd)) = refl
code_read (Some (BadFormula place formula.ExpectedCloseOrOperator)) = refl
code_read (Some TooManyPropositions) = refl
code_read (Some TooManyRows) = refl
code_read (Some TooManyElementaryRows) = refl
code_read (Some LargeAutomaton) = refl
code_read (Some LongWord) = refl
code_read (Some (BadWord place)) = refl
code_read (Some (BadAutomaton line hoa.NotHoaVersion1)) = refl
code_read (Some (BadAutomaton line hoa.BadToken)) = refl
code_read (Some (BadAutomaton line hoa.ItemTwice)) = refl
code_read (Some (BadAutomaton line hoa.ItemMissing)) = refl
code_read (Some (BadAutomaton line hoa.UnknownItem)) = refl
code_read (Some (BadAutomaton line hoa.Unsupported)) = refl
code_read (Some (BadAutomaton line hoa.NumberOutOfRange)) = refl
code_read (Some (BadAutomaton line hoa.BadPropositionList)) = refl
code_read (Some (BadAutomaton line hoa.StateDefinedTwice)) = refl
code_read (Some (BadAutomaton line hoa.TextAfterEnd)) = refl
code_read (Some (BadAutomaton line hoa.LimitPassed)) = refl
code_read (Some LargeProduct) = refl
code_read (Some CannotOpen) = refl
code_read (Some CannotRead) = refl
code_read (Some CannotWrite) = refl
