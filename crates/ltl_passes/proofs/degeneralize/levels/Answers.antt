use Rattle.std.proofs.Common.{rules, ◌≡◌, ◌∙◌, subst}
use Rattle.ltl_spec.specs.Automata.Automaton.{Automaton}
use Rattle.ltl_spec.specs.Construction.Levels.{HasTooManyLevelStates}
use Rattle.ltl_spec.specs.Tools.Limits.{stated_limits}
use Rattle.ltl_automaton.specs.CodedEdges.{tables_of}
use Rattle.ltl_automaton.specs.Labels.{labelled}
use Rattle.ltl_automaton.specs.SharedView.{automaton_of}
use Rattle.ltl_passes.proofs.degeneralize.levels.Goals as goal

pub returns-in_err-copies-clause-many : goal.returns-in_err-copies-clause-many
returns-in_err-copies-clause-many g c = λ e.
    let C = automaton_of c.states-input.result.now.states in
    let same : labelled (tables_of c.labels-labels.result) C ≡ c.args.automaton.now = (λ i. labelled (c.labels-labels.ensures i) C) ∙ c.states-input.ensures.automaton in
    subst (λ (X : Automaton). HasTooManyLevelStates X stated_limits.states stated_limits.edges) same (c.in_err-copies.ensures.many (search rules))
