use Rattle.std.proofs.Common.{◌∙◌, ap, sym, subst}
use Rattle.ltl_spec.specs.Construction.Merging.{merged_automaton}
use Rattle.ltl_models.specs.BaView.{IsBa}
use Rattle.ltl_passes.proofs.MergedLaws.{merged_ba}
use Rattle.ltl_passes.proofs.merging.merge_ba.Goals as goal

pub new-requires-clause-inside : goal.new-requires-clause-inside
new-requires-clause-inside g c =
    let o = c.args.options.now in
    let made = c.in_ok-small.ensures.merged ∙ ap (merged_automaton o.keep_implied o.keep_equal) c.states.ensures.automaton in
    subst IsBa (sym made) (merged_ba c.args.ba.now o.keep_implied o.keep_equal c.invariant.ensures)
