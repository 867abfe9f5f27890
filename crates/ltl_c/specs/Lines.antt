-- Parts of lines.
use Rattle.std.specs.Prelude.{ℕ, List, codes}
use Rattle.ltl_spec.specs.Tools.Refusal.{Checker, Refusal, Usage}
use Rattle.ltl_words.specs.Tools.{tool_of}
use Rattle.ltl_cli.specs.Messages.{front_text}
use Rattle.ltl_c.specs.declared.message.Program as code
use Rattle.ltl_draw.specs.Messages.{draw_usage}
use Rattle.ltl_reduction.specs.Messages.{reduce_usage}
use Rattle.ltl_c.specs.Codes.{Comparer, Drawer, Plain, Program, Reducer, subject_in}

abbrev pub program_in : code.Program → Program
program_in (code.TheVariants.Plain tool) = Plain (tool_of tool)
program_in (code.TheVariants.Comparer subject) = Comparer (subject_in subject)
program_in code.TheVariants.Drawer = Drawer
program_in code.TheVariants.Reducer = Reducer

-- the comparer's text of a refusal up to its number: that of the checker, but for the usage
abbrev pub comparer_front_text : Refusal → List ℕ
comparer_front_text Usage = codes "usage: ltlcompare (-f formula | -F file) (-g formula | -G file)"
comparer_front_text r = front_text Checker r

-- the same of the drawer
abbrev pub draw_front_text : Refusal → List ℕ
draw_front_text Usage = draw_usage
draw_front_text r = front_text Checker r

-- the same of the reducer
abbrev pub reduce_front_text : Refusal → List ℕ
reduce_front_text Usage = reduce_usage
reduce_front_text r = front_text Checker r
