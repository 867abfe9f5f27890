use Rattle.std.proofs.Common.{rules, ◌≡◌, ◌∙◌, ap, sym, subst, Result, Ok, Err}
use Rattle.std.specs.Prelude.{OnOk}
use Rattle.std.proofs.lemmas.Result.{IfOk-weaker}
use Rattle.ltl_spec.specs.Automata.Automaton.{Automaton}
use Rattle.ltl_spec.specs.Construction.Levels.{level_automaton, HasTooManyLevelStates}
use Rattle.ltl_spec.specs.Construction.Renumbered.{renumbered_automaton}
use Rattle.ltl_spec.specs.Tools.Limits.{stated_limits}
use Rattle.ltl_automaton.specs.SharedView.{automaton_of}
use Rattle.ltl_models.specs.GbaView as gba
use Rattle.ltl_models.specs.BaView.{IsBa}
use Rattle.ltl_automaton.specs.CodedEdges.{tables_of}
use Rattle.ltl_automaton.specs.Labels.{AreCoded, labelled}
use Rattle.ltl_passes.specs.Passes.{buchi_of, merged_of}
use Rattle.ltl_passes.proofs.LabelledPasses.{coded_renumbered, labelled_renumbered, numberable_coded, within_coded}
use Rattle.ltl_passes.proofs.MergedLaws.{gba_within, merged_ba, merged_gba}
use Rattle.ltl_passes.proofs.RenumberLaws.{ba_numberable, numbered_ba}
use Rattle.ltl_passes.proofs.passes.coded_buchi.Goals as goal

on_any : {T E : Type 0} (r : Result T E) (P : Type 0) → P → OnOk r P
on_any (Ok v) P p = p
on_any (Err e) P p = tt

pub merged-requires-clause-within : goal.merged-requires-clause-within
merged-requires-clause-within g c =
    let t = tables_of c.args.labels.now in
    let A = automaton_of c.args.states in
    within_coded t A (gba_within (labelled t A) c.requires.inside)

pub level_states-requires-clause-inside : goal.level_states-requires-clause-inside
level_states-requires-clause-inside g c =
    let t = tables_of c.args.labels.now in
    let o = c.args.options.now in
    subst gba.IsGba (sym c.in_ok-small.ensures.merged) (merged_gba (labelled t (automaton_of c.args.states)) o.keep_implied o.keep_equal c.requires.inside)

pub returns-in_err-copies-clause-many : goal.returns-in_err-copies-clause-many
returns-in_err-copies-clause-many g c =
    λ e. subst (λ (X : Automaton). HasTooManyLevelStates X stated_limits.states stated_limits.edges) c.in_ok-small.ensures.merged (c.in_err-copies.ensures.many (search rules))

pub merged-requires-2-clause-within : goal.merged-requires-2-clause-within
merged-requires-2-clause-within g c = within_coded (tables_of c.args.labels.now) (automaton_of c.in_ok-copies.copies) c.in_ok-copies.ensures.inside.within

pub renumbered-requires : goal.renumbered-requires
renumbered-requires g c =
    let t = tables_of c.args.labels.now in
    let o = c.args.options.now in
    let C = automaton_of c.in_ok-smaller.smaller in
    let ba = subst IsBa (sym c.in_ok-smaller.ensures.merged) (merged_ba (labelled t (automaton_of c.in_ok-copies.copies)) o.keep_implied o.keep_equal c.in_ok-copies.ensures.inside) in
    numberable_coded t c.requires.tables C c.in_ok-smaller.ensures.coded (ba_numberable (labelled t C) ba)

pub returns-clause-states : goal.returns-clause-states
returns-clause-states g c =
    let t = tables_of c.args.labels.now in
    let o = c.args.options.now in
    let W = labelled t (automaton_of c.args.states) in
    let C = automaton_of c.in_ok-smaller.smaller in
    let same : labelled t C ≡ merged_of o (level_automaton (merged_of o W)) = c.in_ok-smaller.ensures.merged ∙ ap (merged_of o) (c.in_ok-copies.ensures.copies ∙ ap level_automaton c.in_ok-small.ensures.merged) in
    IfOk-weaker c.renumbered.result (λ s. automaton_of s ≡ renumbered_automaton C) (λ s. labelled t (automaton_of s) ≡ buchi_of o W)
    (λ s e. ap (labelled t) e ∙ labelled_renumbered t c.requires.tables C c.in_ok-smaller.ensures.coded ∙ ap renumbered_automaton same) c.renumbered.ensures.renumbered

pub returns-clause-inside : goal.returns-clause-inside
returns-clause-inside g c =
    let t = tables_of c.args.labels.now in
    let o = c.args.options.now in
    let C = automaton_of c.in_ok-smaller.smaller in
    let ba = subst IsBa (sym c.in_ok-smaller.ensures.merged) (merged_ba (labelled t (automaton_of c.in_ok-copies.copies)) o.keep_implied o.keep_equal c.in_ok-copies.ensures.inside) in
    IfOk-weaker c.renumbered.result (λ s. automaton_of s ≡ renumbered_automaton C) (λ s. IsBa (labelled t (automaton_of s)))
    (λ s e. subst IsBa (sym (ap (labelled t) e ∙ labelled_renumbered t c.requires.tables C c.in_ok-smaller.ensures.coded)) (numbered_ba (labelled t C) ba)) c.renumbered.ensures.renumbered

pub returns-clause-coded : goal.returns-clause-coded
returns-clause-coded g c =
    let t = tables_of c.args.labels.now in
    let C = automaton_of c.in_ok-smaller.smaller in
    IfOk-weaker c.renumbered.result (λ s. automaton_of s ≡ renumbered_automaton C) (λ s. AreCoded t (automaton_of s))
    (λ s e. subst (AreCoded t) (sym e) (coded_renumbered t c.requires.tables C c.in_ok-smaller.ensures.coded)) c.renumbered.ensures.renumbered

pub returns-clause-few : goal.returns-clause-few
returns-clause-few g c =
    on_any c.renumbered.result _ (subst (λ (X : Automaton). ¬ (HasTooManyLevelStates X stated_limits.states stated_limits.edges)) c.in_ok-small.ensures.merged c.in_ok-copies.ensures.few)
