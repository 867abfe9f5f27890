use Rattle.std.proofs.Common.{◌≡◌, ◌∙◌, ap, sym, subst}
use Rattle.ltl_spec.specs.Automata.Automaton.{Automaton}
use Rattle.ltl_spec.specs.Construction.Renumbered.{renumbered_automaton}
use Rattle.ltl_automaton.specs.CodedEdges.{tables_of}
use Rattle.ltl_automaton.specs.Labels.{AreCoded, AreTables, labelled}
use Rattle.ltl_automaton.specs.SharedView.{automaton_of}
use Rattle.ltl_models.specs.GbaView.{IsAcceptingGba}
use Rattle.ltl_passes.specs.Partition.{IsWithinStates}
use Rattle.ltl_passes.specs.Numbered.{IsNumberable}
use Rattle.ltl_passes.specs.Passes.{merged_of}
use Rattle.ltl_passes.proofs.LabelledPasses.{coded_renumbered, labelled_renumbered, numberable_coded, within_coded}
use Rattle.ltl_passes.proofs.MergedLaws.{gba_within, merged_accepting_gba, merged_gba, merged_rising}
use Rattle.ltl_passes.proofs.RenumberLaws.{gba_numberable, numbered_gba}
use Rattle.ltl_passes.proofs.passes.generalized.Goals as goal

pub merged-requires-clause-within : goal.merged-requires-clause-within
merged-requires-clause-within g c =
    let t = tables_of c.labels.result in
    let C = automaton_of c.into_states-table.result.states in
    let same : labelled t C ≡ c.args.automaton = (λ i. labelled (c.labels.ensures i) C) ∙ c.into_states-table.ensures.automaton in
    within_coded t C (subst (λ (X : Automaton). IsWithinStates X.states) (sym same) (gba_within c.args.automaton c.invariant.ensures.inside))

pub renumbered-requires : goal.renumbered-requires
renumbered-requires g c =
    let t = tables_of c.labels.result in
    let o = c.args.options.now in
    let A = c.args.automaton in
    let S = automaton_of c.in_ok-small.small in
    let tables : AreTables t = subst AreTables (sym c.labels.ensures) c.into_states-table.ensures.labels.tables in
    let same : labelled t (automaton_of c.into_states-table.result.states) ≡ A = (λ i. labelled (c.labels.ensures i) (automaton_of c.into_states-table.result.states)) ∙ c.into_states-table.ensures.automaton in
    let small : labelled t S ≡ merged_of o A = c.in_ok-small.ensures.merged ∙ ap (merged_of o) same in
    numberable_coded t tables S c.in_ok-small.ensures.coded
    (subst IsNumberable (sym small) (gba_numberable (merged_of o A) (merged_gba A o.keep_implied o.keep_equal c.invariant.ensures.inside) (merged_rising A o.keep_implied o.keep_equal)))

pub new-requires-clause-inside : goal.new-requires-clause-inside
new-requires-clause-inside g c =
    let t = tables_of c.labels.result in
    let o = c.args.options.now in
    let A = c.args.automaton in
    let S = automaton_of c.in_ok-small.small in
    let tables : AreTables t = subst AreTables (sym c.labels.ensures) c.into_states-table.ensures.labels.tables in
    let same : labelled t (automaton_of c.into_states-table.result.states) ≡ A = (λ i. labelled (c.labels.ensures i) (automaton_of c.into_states-table.result.states)) ∙ c.into_states-table.ensures.automaton in
    let small : labelled t S ≡ merged_of o A = c.in_ok-small.ensures.merged ∙ ap (merged_of o) same in
    let made =
    (λ i. labelled (sym c.labels.ensures i) (automaton_of c.in_ok-numbered.numbered))
    ∙ ap (labelled t) c.in_ok-numbered.ensures.renumbered ∙ labelled_renumbered t tables S c.in_ok-small.ensures.coded ∙ ap renumbered_automaton small in
    let accepting = merged_accepting_gba A o.keep_implied o.keep_equal c.invariant.ensures.inside c.invariant.ensures.accepting in
    subst IsAcceptingGba (sym made) (numbered_gba (merged_of o A) accepting.inside accepting.accepting)

pub new-requires-clause-labels : goal.new-requires-clause-labels
new-requires-clause-labels g c =
    let t = tables_of c.labels.result in
    let S = automaton_of c.in_ok-small.small in
    let tables : AreTables t = subst AreTables (sym c.labels.ensures) c.into_states-table.ensures.labels.tables in
    let coded = subst (AreCoded t) (sym c.in_ok-numbered.ensures.renumbered) (coded_renumbered t tables S c.in_ok-small.ensures.coded) in
    record { tables = c.into_states-table.ensures.labels.tables; coded = subst (λ u. AreCoded u (automaton_of c.in_ok-numbered.numbered)) c.labels.ensures coded }

pub returns-clause-states : goal.returns-clause-states
returns-clause-states g c =
    let t = tables_of c.labels.result in
    let o = c.args.options.now in
    let A = c.args.automaton in
    let S = automaton_of c.in_ok-small.small in
    let tables : AreTables t = subst AreTables (sym c.labels.ensures) c.into_states-table.ensures.labels.tables in
    let same : labelled t (automaton_of c.into_states-table.result.states) ≡ A = (λ i. labelled (c.labels.ensures i) (automaton_of c.into_states-table.result.states)) ∙ c.into_states-table.ensures.automaton in
    let small : labelled t S ≡ merged_of o A = c.in_ok-small.ensures.merged ∙ ap (merged_of o) same in
    c.new-2.ensures
    ∙ c.new.ensures
    ∙ (λ i. labelled (sym c.labels.ensures i) (automaton_of c.in_ok-numbered.numbered))
    ∙ ap (labelled t) c.in_ok-numbered.ensures.renumbered
    ∙ labelled_renumbered t tables S c.in_ok-small.ensures.coded
    ∙ ap renumbered_automaton small
