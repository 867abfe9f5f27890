use Rattle.std.proofs.Common.{◌∙◌, ap, sym, subst}
use Rattle.ltl_spec.specs.Construction.Renumbered.{renumbered_automaton}
use Rattle.ltl_automaton.specs.CodedEdges.{table_of}
use Rattle.ltl_automaton.specs.Labels.{AreCoded, AreTables, labelled}
use Rattle.ltl_automaton.specs.SharedView.{automaton_of}
use Rattle.ltl_models.specs.BaView.{IsBa}
use Rattle.ltl_passes.specs.Numbered.{IsNumberable}
use Rattle.ltl_passes.proofs.LabelledPasses.{coded_renumbered, labelled_renumbered, numberable_coded}
use Rattle.ltl_passes.proofs.RenumberLaws.{ba_numberable, numbered_ba}
use Rattle.ltl_passes.proofs.numbering.renumber.Goals as goal

pub renumbered-requires : goal.renumbered-requires
renumbered-requires g c =
    let t = table_of c.states-input.result.now.table in
    let C = automaton_of c.states-input.result.now.states in
    let had = c.states-input.ensures.labels in
    numberable_coded t had.tables C had.coded (subst IsNumberable (sym c.states-input.ensures.automaton) (ba_numberable c.args.automaton.now c.invariant.ensures))

pub new-requires-clause-inside : goal.new-requires-clause-inside
new-requires-clause-inside g c =
    let t = table_of c.states-input.result.now.table in
    let C = automaton_of c.states-input.result.now.states in
    let had = c.states-input.ensures.labels in
    let made =
    (λ i. labelled ((c.in_ok-table.ensures ∙ c.labels.ensures) i) (automaton_of c.in_ok-numbered.numbered))
    ∙ ap (labelled t) c.in_ok-numbered.ensures.renumbered ∙ labelled_renumbered t had.tables C had.coded ∙ ap renumbered_automaton c.states-input.ensures.automaton in
    subst IsBa (sym made) (numbered_ba c.args.automaton.now c.invariant.ensures)

pub new-requires-clause-labels : goal.new-requires-clause-labels
new-requires-clause-labels g c =
    let t = table_of c.states-input.result.now.table in
    let C = automaton_of c.states-input.result.now.states in
    let had = c.states-input.ensures.labels in
    let kept = sym (c.in_ok-table.ensures ∙ c.labels.ensures) in
    let coded = subst (AreCoded t) (sym c.in_ok-numbered.ensures.renumbered) (coded_renumbered t had.tables C had.coded) in
    record { tables = subst AreTables kept had.tables; coded = subst (λ u. AreCoded u (automaton_of c.in_ok-numbered.numbered)) kept coded }

pub returns-clause-renumbered : goal.returns-clause-renumbered
returns-clause-renumbered g c =
    let t = table_of c.states-input.result.now.table in
    let C = automaton_of c.states-input.result.now.states in
    let had = c.states-input.ensures.labels in
    c.in_ok-new.ensures
    ∙ (λ i. labelled ((c.in_ok-table.ensures ∙ c.labels.ensures) i) (automaton_of c.in_ok-numbered.numbered))
    ∙ ap (labelled t) c.in_ok-numbered.ensures.renumbered
    ∙ labelled_renumbered t had.tables C had.coded
    ∙ ap renumbered_automaton c.states-input.ensures.automaton
