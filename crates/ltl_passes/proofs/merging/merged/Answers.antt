use Rattle.std.proofs.Common.{◌≡◌, ◌∙◌, ap, sym, subst, length, cond}
use Rattle.std.proofs.lemmas.Result.{IfOk-weaker}
use Rattle.ltl_spec.specs.Construction.Merging.{class_names, merged_automaton, quotient}
use Rattle.ltl_automaton.specs.SharedView.{automaton_of}
use Rattle.ltl_automaton.specs.CodedEdges.{tables_of}
use Rattle.ltl_automaton.specs.Labels.{labelled}
use Rattle.ltl_passes.specs.Partition.{AreNames}
use Rattle.ltl_passes.proofs.CodedListLaws.{labelled_classes}
use Rattle.ltl_passes.proofs.MergeLaws.{long_of_round, names_of_round}
use Rattle.ltl_passes.proofs.merging.merged.Goals as goal

pub quotient-requires-clause-long : goal.quotient-requires-clause-long
quotient-requires-clause-long g c = ap length c.as_slice.ensures.value ∙ long_of_round (automaton_of c.args.states.now) (cond c.options.inside.keep_equal 0 (length (automaton_of c.args.states.now).states)) _ c.in_ok-names.ensures

pub quotient-requires-clause-names : goal.quotient-requires-clause-names
quotient-requires-clause-names g c =
    subst AreNames (sym c.as_slice.ensures.value) (names_of_round (automaton_of c.args.states.now) (cond c.options.inside.keep_equal 0 (length (automaton_of c.args.states.now).states)) _ c.in_ok-names.ensures)

pub returns-clause-merged : goal.returns-clause-merged
returns-clause-merged g c =
    let A = automaton_of c.args.states.now in
    let t = tables_of c.args.labels.now in
    let B = labelled t A in
    let o = c.args.options.now in
    let inside = c.options.inside in
    let implied = ap (λ p. p.keep_implied) c.options.view_is in
    let equal = ap (λ p. p.keep_equal) c.options.view_is in
    let names = c.as_slice.ensures.value ∙ c.in_ok-names.ensures ∙ labelled_classes t A inside.keep_equal c.requires.tables c.requires.coded ∙ ap (λ b. class_names B (cond b 0 (length B.states))) equal in
    IfOk-weaker c.quotient.result (λ m. labelled t (automaton_of m) ≡ quotient inside.keep_implied c.as_slice.result.now B) (λ m. labelled t (automaton_of m) ≡ merged_automaton o.keep_implied o.keep_equal B)
    (λ m e. e ∙ (λ i. quotient (implied i) (names i) B)) c.quotient.ensures.merged
