use Rattle.std.proofs.Common.{◌∙◌, ap, sym, subst}
use Rattle.ltl_spec.specs.Automata.Automaton.{Automaton}
use Rattle.ltl_spec.specs.Construction.Merging.{merged_automaton}
use Rattle.ltl_models.specs.GbaView.{IsAcceptingGba}
use Rattle.ltl_passes.specs.Partition.{IsWithinStates}
use Rattle.ltl_passes.proofs.MergedLaws.{gba_within, merged_accepting_gba}
use Rattle.ltl_passes.proofs.merging.merge.Goals as goal

pub merged_states-requires-clause-within : goal.merged_states-requires-clause-within
merged_states-requires-clause-within g c = subst (λ (X : Automaton). IsWithinStates X.states) (sym c.states.ensures.automaton) (gba_within c.args.gba.now c.invariant.ensures.inside)

pub new-requires-clause-inside : goal.new-requires-clause-inside
new-requires-clause-inside g c =
    let o = c.args.options.now in
    let made = c.in_ok-small.ensures.merged ∙ ap (merged_automaton o.keep_implied o.keep_equal) c.states.ensures.automaton in
    subst IsAcceptingGba (sym made) (merged_accepting_gba c.args.gba.now o.keep_implied o.keep_equal c.invariant.ensures.inside c.invariant.ensures.accepting)
