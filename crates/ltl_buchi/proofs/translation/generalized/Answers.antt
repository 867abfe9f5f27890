use Rattle.std.proofs.Common.{Bool, true, false, ap, refl, subst}
use Rattle.std.specs.Prelude.{◌≡◌}
use Rattle.std.proofs.lemmas.Result.{IfOk-weaker}
use Rattle.ltl_spec.specs.Formulas.Formula.{Formula}
use Rattle.ltl_spec.specs.NormalForms.Normal.{Normal}
use Rattle.ltl_spec.specs.NormalForms.NormalForm.{core}
use Rattle.ltl_spec.specs.Automata.Generalized.{IsTooLarge}
use Rattle.ltl_spec.specs.Automata.GeneralizedText.{IsGeneralizedTranslation}
use Rattle.ltl_spec.specs.Construction.Renumbered.{renumbered_automaton}
use Rattle.ltl_spec.specs.Tools.Limits.{stated_limits}
use Rattle.ltl_spec.specs.Semantics.Language.{HasLanguageOf, AcceptsModels, AcceptsViolations}
use Rattle.ltl_spec.proofs.Semantics.LanguageLaws.{generalized_language, generalized_models, generalized_violations}
use Rattle.ltl_formula.specs.TableView.{core_of}
use Rattle.ltl_passes.specs.Passes.{merged_of}
use Rattle.ltl_buchi.proofs.TranslationLaws.{numbered, generalized_named}
use Rattle.ltl_buchi.proofs.translation.generalized.Goals as goal

pub returns-clause-definition : goal.returns-clause-definition
returns-clause-definition g c =
    numbered (core_of c.args.table.now) c.args.options.now c.options.inside.keep_implied (ap (λ o. o.keep_implied) c.options.view_is) c.in_ok-made.made (merged_of c.args.options.now c.in_ok-made.made) c.in_ok-made.ensures.generalized refl c.generalized.result
    c.generalized.ensures.states

pub returns-clause-fits : goal.returns-clause-fits
returns-clause-fits g c =
    let N = core_of c.args.table.now in
    IfOk-weaker c.generalized.result (λ A. A ≡ renumbered_automaton (merged_of c.args.options.now c.in_ok-made.made)) (λ _. ¬ (IsTooLarge N c.args.options.now.keep_implied stated_limits.states stated_limits.edges))
    (λ A e. subst (λ k. ¬ (IsTooLarge N k stated_limits.states stated_limits.edges)) (ap (λ o. o.keep_implied) c.options.view_is) c.in_ok-made.ensures.fits) c.generalized.ensures.states

pub returns-clause-language : goal.returns-clause-language
returns-clause-language g c =
    let N = core_of c.args.table.now in
    let o = c.args.options.now in
    IfOk-weaker c.generalized.result (IsGeneralizedTranslation N o) (λ A. HasLanguageOf A N) (λ A t. generalized_language N o A t) (returns-clause-definition g c)

pub returns-clause-models : goal.returns-clause-models
returns-clause-models g c =
    let N = core_of c.args.table.now in
    let o = c.args.options.now in
    IfOk-weaker c.generalized.result (IsGeneralizedTranslation N o) (λ A. (F : Formula) (rewrite : Bool) → N ≡ core F false rewrite → AcceptsModels A F)
    (λ A t F rewrite e. generalized_models F rewrite o A (subst (λ (M : Normal). IsGeneralizedTranslation M o A) e t)) (returns-clause-definition g c)

pub returns-clause-violations : goal.returns-clause-violations
returns-clause-violations g c =
    let N = core_of c.args.table.now in
    let o = c.args.options.now in
    IfOk-weaker c.generalized.result (IsGeneralizedTranslation N o) (λ A. (F : Formula) (rewrite : Bool) → N ≡ core F true rewrite → AcceptsViolations A F)
    (λ A t F rewrite e. generalized_violations F rewrite o A (subst (λ (M : Normal). IsGeneralizedTranslation M o A) e t)) (returns-clause-definition g c)

pub returns-clause-named : goal.returns-clause-named
returns-clause-named g c = generalized_named (core_of c.args.table.now) c.args.options.now c.generalized.result (returns-clause-definition g c)
