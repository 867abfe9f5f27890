use Rattle.std.proofs.Common.{sym, ◌∙◌, ◌-◌}
use Rattle.ltl_spec.proofs.Construction.LevelLaws.{climb_on, climb_stop}
use Rattle.ltl_automaton.proofs.level.next_level.Goals as goal

pub climb-preserved : goal.climb-preserved
climb-preserved c = sym (climb_on c.args.sets c.climb.reached c.args.marks.now c.climb-test.true (sym c.holds.ensures ∙ c.if-holds.true)) ∙ c.climb.invariant

pub returns-else-holds : goal.returns-else-holds
returns-else-holds c = sym (climb_stop (c.args.sets - c.climb.reached) c.climb.reached c.args.marks.now (sym c.holds.ensures ∙ c.if-holds.false)) ∙ c.climb.invariant
