-- Why a program refuses, with its message and its exit status.
use Rattle.std.specs.Prelude.{ℕ, List, ◌++◌, codes, decimal}
use Rattle.ltl_spec.specs.Formulas.Fault.{FaultKind, UnexpectedByte, ExpectedOperand, ExpectedOperatorOrEnd, ExpectedCloseOrOperator}
use Rattle.ltl_spec.specs.Automata.ClaimText.{line}
use Rattle.ltl_spec.specs.Hoa.HoaFaultKind.{HoaFaultKind, hoa_fault_text}
use Rattle.ltl_spec.specs.Tools.Limits.{Limits}

-- the programs: `ltl2ba`, `ltlcheck` and `ltleval`
pub data Tool : Type 0 where
  Translator Checker Evaluator : Tool

-- why a program prints no result
pub data Refusal : Type 0 where
  Usage CannotOpen CannotRead CannotWrite OutOfMemory : Refusal
  LongFormula TooManyPropositions TooManyRows TooManyElementaryRows LargeAutomaton LongWord LargeProduct : Refusal
  -- the byte's place
  BadFormula : ℕ → FaultKind → Refusal
  BadWord : ℕ → Refusal
  -- the line's number
  BadAutomaton : ℕ → HoaFaultKind → Refusal

abbrev pub tool_name : Tool → List ℕ
tool_name Translator = codes "ltl2ba"
tool_name Checker = codes "ltlcheck"
tool_name Evaluator = codes "ltleval"

abbrev pub usage_text : Tool → List ℕ
usage_text Translator = codes "ltl2ba [-l] [-o] [-p] [-H | -G] (-f formula | -F file)"
usage_text Checker = codes "ltlcheck (-f formula | -F file) [-A file]"
usage_text Evaluator = codes "ltleval (-f formula | -F file) -w lasso"

abbrev pub fault_text : FaultKind → List ℕ
fault_text UnexpectedByte = codes "unexpected byte"
fault_text ExpectedOperand = codes "expected operand"
fault_text ExpectedOperatorOrEnd = codes "expected operator or end"
fault_text ExpectedCloseOrOperator = codes "expected ) or operator"

-- a limit's message, `before` and `after` the number
abbrev pub limit_text : List ℕ → ℕ → List ℕ → List ℕ
limit_text before most after = codes "limit: " ++ before ++ decimal most ++ after

-- the text of a refusal
abbrev pub refusal_text : Limits → Tool → Refusal → List ℕ
refusal_text l tool Usage = codes "usage: " ++ usage_text tool
refusal_text l tool CannotOpen = codes "cannot open"
refusal_text l tool CannotRead = codes "cannot read"
refusal_text l tool CannotWrite = codes "cannot write"
refusal_text l tool OutOfMemory = codes "out of memory"
refusal_text l tool LongFormula = limit_text (codes "formula longer than ") l.formula_bytes (codes " bytes")
refusal_text l tool TooManyPropositions = limit_text (codes "more than ") l.propositions (codes " propositions")
refusal_text l tool TooManyRows = limit_text (codes "more than ") l.rows (codes " rows")
refusal_text l tool TooManyElementaryRows = limit_text (codes "more than ") l.elementary_rows (codes " elementary rows")
refusal_text l tool LargeAutomaton = codes "limit: automaton too large"
refusal_text l tool LongWord = limit_text (codes "word longer than ") l.word_bytes (codes " bytes")
refusal_text l tool LargeProduct = codes "limit: product too large"
refusal_text l tool (BadFormula place kind) = codes "formula: byte " ++ decimal place ++ codes ": " ++ fault_text kind
refusal_text l tool (BadWord place) = codes "word: byte " ++ decimal place ++ codes ": bad word"
refusal_text l tool (BadAutomaton number kind) = codes "automaton: line " ++ decimal number ++ codes ": " ++ hoa_fault_text kind

-- the line that a program writes when it refuses
abbrev pub message : Limits → Tool → Refusal → List ℕ
message l tool r = line (tool_name tool ++ codes ": " ++ refusal_text l tool r)

-- the exit status: usage 2, memory 4, a stream 5, and for every other refusal 3
abbrev pub status_of : Refusal → ℕ
status_of Usage = 2
status_of OutOfMemory = 4
status_of CannotOpen = 5
status_of CannotRead = 5
status_of CannotWrite = 5
status_of _ = 3
