use Rattle.std.proofs.Common.{◌≡◌, ◌∙◌, ap, false, sym, subst}
use Rattle.ltl_spec.specs.Automata.Automaton.{Automaton}
use Rattle.ltl_spec.specs.Construction.Merging.{merged_automaton}
use Rattle.ltl_spec.specs.Construction.Renumbered.{renumbered_automaton}
use Rattle.ltl_automaton.specs.CodedEdges.{tables_of}
use Rattle.ltl_automaton.specs.LabelTables.{labelled_of}
use Rattle.ltl_automaton.specs.Labels.{AreCoded, AreTables, labelled}
use Rattle.ltl_automaton.specs.SharedView.{automaton_of}
use Rattle.ltl_models.specs.BaView.{IsBa}
use Rattle.ltl_passes.specs.Partition.{IsWithinStates}
use Rattle.ltl_passes.specs.Numbered.{IsNumberable}
use Rattle.ltl_passes.proofs.LabelledPasses.{coded_renumbered, labelled_renumbered, numberable_coded, within_coded}
use Rattle.ltl_passes.proofs.MergedLaws.{gba_within, merged_gba, merged_rising, merged_unmarked}
use Rattle.ltl_passes.proofs.RenumberLaws.{gba_numberable, numbered_plain}
use Rattle.ltl_passes.proofs.passes.merged_buchi.Goals as goal

pub merged-requires-clause-tables : goal.merged-requires-clause-tables
merged-requires-clause-tables g c = subst AreTables (sym c.labels.ensures) c.requires.labels.tables

pub merged-requires-clause-coded : goal.merged-requires-clause-coded
merged-requires-clause-coded g c = subst (λ t. AreCoded t (automaton_of c.args.automaton.states)) (sym c.labels.ensures) c.requires.labels.coded

pub merged-requires-clause-within : goal.merged-requires-clause-within
merged-requires-clause-within g c =
    let t = tables_of c.labels.result in
    let C = automaton_of c.args.automaton.states in
    let same : labelled t C ≡ labelled_of c.args.automaton = (λ i. labelled (c.labels.ensures i) C) in
    within_coded t C (subst (λ (X : Automaton). IsWithinStates X.states) (sym same) (gba_within (labelled_of c.args.automaton) c.requires.inside))

pub renumbered-requires : goal.renumbered-requires
renumbered-requires g c =
    let t = tables_of c.labels.result in
    let A = labelled_of c.args.automaton in
    let S = automaton_of c.in_ok-small.small in
    let tables : AreTables t = subst AreTables (sym c.labels.ensures) c.requires.labels.tables in
    let same : labelled t (automaton_of c.args.automaton.states) ≡ A = (λ i. labelled (c.labels.ensures i) (automaton_of c.args.automaton.states)) in
    let small : labelled t S ≡ merged_automaton false false A = c.in_ok-small.ensures.merged ∙ ap (merged_automaton false false) same in
    numberable_coded t tables S c.in_ok-small.ensures.coded
    (subst IsNumberable (sym small) (gba_numberable (merged_automaton false false A) (merged_gba A false false c.requires.inside) (merged_rising A false false)))

pub new-requires-clause-inside : goal.new-requires-clause-inside
new-requires-clause-inside g c =
    let t = tables_of c.labels.result in
    let A = labelled_of c.args.automaton in
    let S = automaton_of c.in_ok-small.small in
    let tables : AreTables t = subst AreTables (sym c.labels.ensures) c.requires.labels.tables in
    let same : labelled t (automaton_of c.args.automaton.states) ≡ A = (λ i. labelled (c.labels.ensures i) (automaton_of c.args.automaton.states)) in
    let small : labelled t S ≡ merged_automaton false false A = c.in_ok-small.ensures.merged ∙ ap (merged_automaton false false) same in
    let made =
    (λ i. labelled (sym c.labels.ensures i) (automaton_of c.in_ok-numbered.numbered))
    ∙ ap (labelled t) c.in_ok-numbered.ensures.renumbered ∙ labelled_renumbered t tables S c.in_ok-small.ensures.coded ∙ ap renumbered_automaton small in
    subst IsBa (sym made) (numbered_plain (merged_automaton false false A) (merged_gba A false false c.requires.inside) c.requires.none (merged_unmarked A false false c.requires.plain))

pub new-requires-clause-labels : goal.new-requires-clause-labels
new-requires-clause-labels g c =
    let t = tables_of c.labels.result in
    let S = automaton_of c.in_ok-small.small in
    let tables : AreTables t = subst AreTables (sym c.labels.ensures) c.requires.labels.tables in
    let coded = subst (AreCoded t) (sym c.in_ok-numbered.ensures.renumbered) (coded_renumbered t tables S c.in_ok-small.ensures.coded) in
    record { tables = c.requires.labels.tables; coded = subst (λ u. AreCoded u (automaton_of c.in_ok-numbered.numbered)) c.labels.ensures coded }

pub returns-clause-states : goal.returns-clause-states
returns-clause-states g c =
    let t = tables_of c.labels.result in
    let A = labelled_of c.args.automaton in
    let S = automaton_of c.in_ok-small.small in
    let tables : AreTables t = subst AreTables (sym c.labels.ensures) c.requires.labels.tables in
    let same : labelled t (automaton_of c.args.automaton.states) ≡ A = (λ i. labelled (c.labels.ensures i) (automaton_of c.args.automaton.states)) in
    let small : labelled t S ≡ merged_automaton false false A = c.in_ok-small.ensures.merged ∙ ap (merged_automaton false false) same in
    c.in_ok-new.ensures
    ∙ (λ i. labelled (sym c.labels.ensures i) (automaton_of c.in_ok-numbered.numbered))
    ∙ ap (labelled t) c.in_ok-numbered.ensures.renumbered
    ∙ labelled_renumbered t tables S c.in_ok-small.ensures.coded
    ∙ ap renumbered_automaton small
