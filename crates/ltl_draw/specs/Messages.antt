-- The messages of `ltldraw`. They are those of the checker, but for the name and the usage.
use Rattle.std.specs.Prelude.{ℕ, List, ◌++◌, codes}
use Rattle.ltl_spec.specs.Automata.ClaimText.{line}
use Rattle.ltl_spec.specs.Tools.Limits.{stated_limits}
use Rattle.ltl_spec.specs.Tools.Refusal.{Checker, Refusal, Usage, refusal_text}

abbrev pub draw_usage : List ℕ
draw_usage = codes "usage: ltldraw [-A file] [-w lasso] | -t lasso [-f formula]"

abbrev pub draw_text : Refusal → List ℕ
draw_text Usage = draw_usage
draw_text r = refusal_text stated_limits Checker r

abbrev pub draw_message : Refusal → List ℕ
draw_message r = line (codes "ltldraw: " ++ draw_text r)
