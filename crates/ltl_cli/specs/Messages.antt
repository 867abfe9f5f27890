-- The text of a refusal in three parts: up to its number, the number with a colon, and the rest. If there is no number, the first part is all of it.
use Rattle.std.specs.Prelude.{ℕ, List, [], ◌++◌, Option, Some, None, codes, decimal}
use Rattle.ltl_spec.specs.Hoa.HoaFaultKind.{hoa_fault_text}
use Rattle.ltl_spec.specs.Tools.Limits.{stated_limits}
use Rattle.ltl_spec.specs.Tools.Refusal.{Tool, Refusal, BadFormula, BadWord, BadAutomaton, fault_text, message, refusal_text}
use Rattle.ltl_words.specs.declared.tool.Tool as code
use Rattle.ltl_cli.specs.declared.refusal.Refusal as why
use Rattle.ltl_cli.specs.Refusals.{refusal_of}
use Rattle.ltl_words.specs.Tools.{tool_of}

abbrev pub front_text : Tool → Refusal → List ℕ
front_text tool (BadFormula place kind) = codes "formula: byte "
front_text tool (BadWord place) = codes "word: byte "
front_text tool (BadAutomaton number kind) = codes "automaton: line "
front_text tool r = refusal_text stated_limits tool r

abbrev pub number_in : Refusal → Option ℕ
number_in (BadFormula place kind) = Some place
number_in (BadWord place) = Some place
number_in (BadAutomaton number kind) = Some number
number_in _ = None

abbrev pub number_text : Option ℕ → List ℕ
number_text (Some n) = decimal n ++ codes ": "
number_text None = []

abbrev pub back_text : Refusal → List ℕ
back_text (BadFormula place kind) = fault_text kind
back_text (BadWord place) = codes "bad word"
back_text (BadAutomaton number kind) = hoa_fault_text kind
back_text _ = []

-- the text of a refusal of the code, and its line

abbrev pub text_for : code.Tool → why.Refusal → List ℕ
text_for tool refusal = refusal_text stated_limits (tool_of tool) (refusal_of refusal)

abbrev pub line_for : code.Tool → why.Refusal → List ℕ
line_for tool refusal = message stated_limits (tool_of tool) (refusal_of refusal)
