use Rattle.std.proofs.Common.{rules, ◌≡◌, ◌∙◌, ap, sym, subst}
use Rattle.ltl_spec.specs.Automata.Automaton.{Automaton}
use Rattle.ltl_spec.specs.Construction.Levels.{HasTooManyLevelStates}
use Rattle.ltl_spec.specs.Tools.Limits.{stated_limits}
use Rattle.ltl_automaton.specs.CodedEdges.{tables_of}
use Rattle.ltl_automaton.specs.Labels.{AreCoded, labelled}
use Rattle.ltl_automaton.specs.SharedView.{automaton_of}
use Rattle.ltl_passes.specs.Passes.{buchi_of, merged_of}
use Rattle.ltl_passes.proofs.passes.buchi.Goals as goal

pub returns-in_err-numbered-clause-many : goal.returns-in_err-numbered-clause-many
returns-in_err-numbered-clause-many g c = λ e.
    let same : labelled (tables_of c.labels.result) (automaton_of c.into_states-table.result.states) ≡ c.args.automaton =
    (λ i. labelled (c.labels.ensures i) (automaton_of c.into_states-table.result.states)) ∙ c.into_states-table.ensures.automaton in
    subst (λ (X : Automaton). HasTooManyLevelStates X stated_limits.states stated_limits.edges) (ap (merged_of c.args.options.now) same) (c.in_err-numbered.ensures.many (search rules))

pub new-requires-clause-labels : goal.new-requires-clause-labels
new-requires-clause-labels g c = record {
  tables = c.into_states-table.ensures.labels.tables;
  coded = subst (λ t. AreCoded t (automaton_of c.in_ok-numbered.numbered)) c.labels.ensures c.in_ok-numbered.ensures.coded;
}

pub returns-clause-states : goal.returns-clause-states
returns-clause-states g c =
    let same : labelled (tables_of c.labels.result) (automaton_of c.into_states-table.result.states) ≡ c.args.automaton =
    (λ i. labelled (c.labels.ensures i) (automaton_of c.into_states-table.result.states)) ∙ c.into_states-table.ensures.automaton in
    c.in_ok-new.ensures ∙ (λ i. labelled (sym c.labels.ensures i) (automaton_of c.in_ok-numbered.numbered)) ∙ c.in_ok-numbered.ensures.states ∙ ap (buchi_of c.args.options.now) same

pub returns-clause-few : goal.returns-clause-few
returns-clause-few g c =
    let same : labelled (tables_of c.labels.result) (automaton_of c.into_states-table.result.states) ≡ c.args.automaton =
    (λ i. labelled (c.labels.ensures i) (automaton_of c.into_states-table.result.states)) ∙ c.into_states-table.ensures.automaton in
    subst (λ (X : Automaton). ¬ (HasTooManyLevelStates X stated_limits.states stated_limits.edges)) (ap (merged_of c.args.options.now) same) c.in_ok-numbered.ensures.few
