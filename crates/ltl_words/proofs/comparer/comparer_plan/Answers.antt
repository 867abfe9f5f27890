use Rattle.std.proofs.Common.{map}
use Rattle.ltl_words.proofs.ComparerLaws.{passes_planned}
use Rattle.ltl_words.proofs.comparer.comparer_plan.Goals as goal

pub returns-in-Some : goal.returns-in-Some
returns-in-Some c = passes_planned (map (λ w. w.now) c.args.words.now) _ _ c.in_ok-matches.ensures.passes c.in_ok-matches.ensures.rows (rw c.in-Some.is at c.planned.ensures)

pub returns : goal.returns
returns c = passes_planned (map (λ w. w.now) c.args.words.now) _ _ c.in_ok-matches.ensures.passes c.in_ok-matches.ensures.rows (rw c.in-None.is at c.planned.ensures)
