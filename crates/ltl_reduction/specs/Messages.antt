-- The messages of `ltlreduce`. They are those of the checker, but for the name and the usage.
use Rattle.std.specs.Prelude.{ℕ, List, ◌++◌, codes}
use Rattle.ltl_spec.specs.Automata.ClaimText.{line}
use Rattle.ltl_spec.specs.Tools.Limits.{stated_limits}
use Rattle.ltl_spec.specs.Tools.Refusal.{Checker, Refusal, Usage, refusal_text}

abbrev pub reduce_usage : List ℕ
reduce_usage = codes "usage: ltlreduce [-c] [-A file]"

abbrev pub reduce_text : Refusal → List ℕ
reduce_text Usage = reduce_usage
reduce_text r = refusal_text stated_limits Checker r

abbrev pub reduce_message : Refusal → List ℕ
reduce_message r = line (codes "ltlreduce: " ++ reduce_text r)
