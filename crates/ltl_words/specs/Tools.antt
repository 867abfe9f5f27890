-- The programs and exit statuses of the code as those of the definitions.
use Rattle.std.specs.Prelude.{ℕ}
use Rattle.ltl_spec.specs.Tools.Refusal as spec
use Rattle.ltl_words.specs.declared.tool.Tool as tool
use Rattle.ltl_words.specs.declared.status.Status as status

abbrev pub tool_of : tool.Tool → spec.Tool
tool_of tool.TheVariants.Translator = spec.Translator
tool_of tool.TheVariants.Checker = spec.Checker
tool_of tool.TheVariants.Evaluator = spec.Evaluator

abbrev pub status_number : status.Status → ℕ
status_number status.TheVariants.Done = 0
status_number status.TheVariants.Violated = 1
status_number status.TheVariants.Usage = 2
status_number status.TheVariants.Refused = 3
status_number status.TheVariants.OutOfMemory = 4
status_number status.TheVariants.Failed = 5
