-- The translation by its steps.
use Rattle.std.proofs.Common.{◌≡◌, ℕ, Bool, true, false, inl, inr, sym, ◌∙◌, ap, subst, Result, Ok, Err}
use Rattle.std.specs.Prelude.{IfOk, OnOk}
use Rattle.ltl_spec.specs.Formulas.Formula.{Formula}
use Rattle.ltl_spec.specs.NormalForms.Normal.{Normal}
use Rattle.ltl_spec.specs.NormalForms.NormalForm.{core}
use Rattle.ltl_spec.specs.Automata.Automaton.{Automaton}
use Rattle.ltl_spec.specs.Automata.Generalized.{IsGeneralized, IsTooLarge}
use Rattle.ltl_spec.specs.Automata.GeneralizedText.{IsGeneralizedTranslation}
use Rattle.ltl_spec.specs.Construction.Merging.{merged_automaton}
use Rattle.ltl_spec.specs.Construction.Levels.{level_automaton, HasTooManyLevelStates}
use Rattle.ltl_spec.specs.Construction.Renumbered.{renumbered_automaton}
use Rattle.ltl_spec.specs.Construction.Translation.{Options, IsTranslation, IsTranslationTooLarge}
use Rattle.ltl_spec.specs.Semantics.Language.{HasLanguageOf, AcceptsModels, AcceptsViolations}
use Rattle.ltl_spec.proofs.Checking.BelowLaws.{HasLeavesBelow, core_below, translation_is_buchi}
use Rattle.ltl_spec.proofs.Construction.GeneralizedBounds.{one_generalized, translation_below}
use Rattle.ltl_spec.proofs.Semantics.LanguageLaws.{translation_language, translation_models, translation_violations}
use Rattle.ltl_models.specs.Named.{HasNamesOf}

-- A is the generalized automaton, S its merging
module _ (F : Normal) (o : Options) (keep : Bool) (same : keep ≡ o.keep_implied) (A S : Automaton) (generalized : IsGeneralized F keep A) (small : S ≡ merged_automaton o.keep_implied o.keep_equal A) where
  found : IsGeneralized F o.keep_implied A
  found = subst (λ k. IsGeneralized F k A) same generalized

  -- L are the levels, M their merging; what is answered is that numbered
  pub translated : {E : Type 0} (L M : Automaton) (r : Result Automaton E) → L ≡ level_automaton S → M ≡ merged_automaton o.keep_implied o.keep_equal L → IfOk r (λ B. B ≡ renumbered_automaton M) → IfOk r (IsTranslation F o)
  translated L M (Err f) levels smaller numbered = tt
  translated L M (Ok B) levels smaller numbered =
      let merged = merged_automaton o.keep_implied o.keep_equal in
      (A, found, numbered ∙ ap renumbered_automaton (smaller ∙ ap merged (levels ∙ ap level_automaton small)))

  -- what is answered without levels is the merging numbered
  pub numbered : {E : Type 0} (r : Result Automaton E) → IfOk r (λ B. B ≡ renumbered_automaton S) → IfOk r (IsGeneralizedTranslation F o)
  numbered (Err f) e = tt
  numbered (Ok B) e = (A, found, e ∙ ap renumbered_automaton small)

  -- where neither the generalized automaton nor the copies pass the limits, the translation doesn't
  both_fit : (states edges : ℕ) → ¬ (IsTooLarge F keep states edges) → ¬ (HasTooManyLevelStates S states edges) → ¬ (IsTranslationTooLarge F o states edges)
  both_fit states edges first second (inl t) = first (subst (λ k. IsTooLarge F k states edges) (sym same) t)
  both_fit states edges first second (inr (C, g, t)) =
      let e = one_generalized F o.keep_implied C A g found in
      second (subst (λ D. HasTooManyLevelStates D states edges) (ap (merged_automaton o.keep_implied o.keep_equal) e ∙ sym small) t)

  pub fitting : {E : Type 0} (states edges : ℕ) (r : Result Automaton E) → ¬ (IsTooLarge F keep states edges) → OnOk r (¬ (HasTooManyLevelStates S states edges)) → IfOk r (λ _. ¬ (IsTranslationTooLarge F o states edges))
  fitting states edges (Err f) first second = tt
  fitting states edges (Ok B) first second = both_fit states edges first second

  -- where the copies pass them, it does
  pub copies_too_large : (states edges : ℕ) → HasTooManyLevelStates S states edges → IsTranslationTooLarge F o states edges
  copies_too_large states edges t = inr (A, found, subst (λ D. HasTooManyLevelStates D states edges) small t)

-- what is answered has the language of the normal form
module _ (N : Normal) (o : Options) where
  pub language : {E : Type 0} (r : Result Automaton E) → IfOk r (IsTranslation N o) → IfOk r (λ B. HasLanguageOf B N)
  language (Err f) translation = tt
  language (Ok B) translation = translation_language N o B translation

  -- if that is a formula's, it accepts the formula's models
  pub models : {E : Type 0} (r : Result Automaton E) → IfOk r (IsTranslation N o) → IfOk r (λ B. (F : Formula) (rewrite : Bool) → N ≡ core F false rewrite → AcceptsModels B F)
  models (Err f) translation = tt
  models (Ok B) translation = λ F rewrite e. translation_models F rewrite o B (subst (λ (M : Normal). IsTranslation M o B) e translation)

  -- if it is the negation's, the violations
  pub violations : {E : Type 0} (r : Result Automaton E) → IfOk r (IsTranslation N o) → IfOk r (λ B. (F : Formula) (rewrite : Bool) → N ≡ core F true rewrite → AcceptsViolations B F)
  violations (Err f) translation = tt
  violations (Ok B) translation = λ F rewrite e. translation_violations F rewrite o B (subst (λ (M : Normal). IsTranslation M o B) e translation)

  -- and its literals are of the formula's propositions
  pub named : {E : Type 0} (r : Result Automaton E) → IfOk r (IsTranslation N o) → IfOk r (HasNamesOf N)
  named (Err f) translation = tt
  named (Ok B) translation = λ n F negate rewrite h e. (translation_is_buchi n N o B translation (subst (HasLeavesBelow n) (sym e) (core_below n F negate rewrite h))).propositions

  pub generalized_named : {E : Type 0} (r : Result Automaton E) → IfOk r (IsGeneralizedTranslation N o) → IfOk r (HasNamesOf N)
  generalized_named (Err f) translation = tt
  generalized_named (Ok A) translation = λ n F negate rewrite h e. translation_below N o A translation n (subst (HasLeavesBelow n) (sym e) (core_below n F negate rewrite h))
