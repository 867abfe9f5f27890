use Rattle.std.proofs.Common.{◌∙◌, ap}
use Rattle.ltl_spec.specs.Collections.Sets.{set_of}
use Rattle.ltl_spec.specs.Transitions.Pairs.{pair_cmp}
use Rattle.ltl_alt.specs.StepLists.{list_at}
use Rattle.ltl_alt.specs.TestPairs.{step_pairs}
use Rattle.ltl_alt.specs.TransitionView.{table_at}
use Rattle.ltl_alt.specs.declared.rule.Rule.TheVariants.{Duplicate}
use Rattle.ltl_alt.proofs.ConjunctLaws.{row_step_pairs}
use Rattle.ltl_alt.proofs.StandInLaws.{listed_equal}
use Rattle.ltl_alt.proofs.pair_set.pairs.Goals as goal

pub prepare-requires-clause-lists : goal.prepare-requires-clause-lists
prepare-requires-clause-lists g c = c.in_ok-lists.ensures (table_at c.args.table.now) Duplicate

pub prepare-requires-clause-within : goal.prepare-requires-clause-within
prepare-requires-clause-within g c =
    (row_step_pairs c.args.table.now c.in_ok-program.program.steps.keys c.in_ok-program.program.rows.items c.args.row c.pair_step-step.result c.in_ok-program.ensures c.requires c.pair_step-step.ensures).0

pub returns : goal.returns
returns g c =
    let t = c.args.table.now in
    let ss = c.in_ok-program.program.steps.keys in
    let x = c.pair_step-step.result in
    c.in_ok-pairs.ensures.items ∙ c.pairs.ensures ∙ listed_equal (table_at t) (step_pairs ss x) (list_at c.prepare.new.self.lists.items x) c.in_ok-prepare.ensures.pairs
    ∙ ap (set_of pair_cmp) (row_step_pairs t ss c.in_ok-program.program.rows.items c.args.row x c.in_ok-program.ensures c.requires c.pair_step-step.ensures).1
