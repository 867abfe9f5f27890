-- What the translator prints accepts exactly the models.
use Rattle.std.proofs.Common.{◌≡◌, ◌∙◌, ap, sym, subst, refl, ℕ, ◌^◌, ◌<◌, Bool, false, List, Option, Some, None, arith}
use Rattle.std.specs.Prelude.{Result, Ok, Err}
use Rattle.ltl_spec.specs.Formulas.Formula.{Formula, Reading}
use Rattle.ltl_spec.specs.NormalForms.Normal.{Normal}
use Rattle.ltl_spec.specs.NormalForms.NormalForm.{core}
use Rattle.ltl_spec.specs.Automata.Automaton.{Automaton}
use Rattle.ltl_spec.specs.Automata.ClaimText.{never_text}
use Rattle.ltl_spec.specs.Automata.HoaText.{hoa_text}
use Rattle.ltl_spec.specs.Automata.GeneralizedText.{IsGeneralizedTranslation, generalized_text}
use Rattle.ltl_spec.specs.Construction.Translation.{Options, IsTranslation}
use Rattle.ltl_spec.specs.Semantics.Language.{AcceptsModels}
use Rattle.ltl_spec.specs.Claims.ClaimTokens.{HasNoPromelaWord}
use Rattle.ltl_spec.specs.Claims.ClaimMeaning.{IsClaimOfModels}
use Rattle.ltl_spec.specs.Tools.Limits.{Limits}
use Rattle.ltl_spec.specs.Tools.Refusal.{Refusal, Translator}
use Rattle.ltl_spec.specs.Tools.Outcome.{Answer, Input, IsPromised, Seen, Then, answer_by, input_of, printed}
use Rattle.ltl_spec.specs.Tools.Readings.{IsFormulaIn}
use Rattle.ltl_spec.specs.Tools.Programs.{Layout, Claim, Hoa, Generalized, InputReads, KeepsRows, Prints, Translates, TranslatesGeneralized, TranslatorAnswers, TranslatorPlan, TranslatorPrints}
use Rattle.ltl_spec.specs.Tools.Run.{IsReadAsModels, IsTextOfModels, IsTold, TellsModels, laid_out}
use Rattle.ltl_spec.proofs.Construction.GeneralizedBounds.{translation_accepting}
use Rattle.ltl_spec.proofs.Semantics.LanguageLaws.{generalized_models, translation_models}
use Rattle.ltl_spec.proofs.Claims.ClaimModels.{printed_models_read}
use Rattle.ltl_spec.proofs.Tools.StepLaws.{formula_in, promise_holds, refusals_high, same_ok, then_ok}

module _ (l : Limits) (F : Formula) (rewrite : Bool) (N : Normal) (same : N ≡ core F false rewrite) (o : Options) (R : Reading) (text : List ℕ) where
  plain : (B : Automaton) → Translates l N o (Ok B) → (B.sets ≡ 0) × AcceptsModels B F
  plain B t = (ap (λ (x : Automaton). x.sets) t.0.2, translation_models F rewrite o B (subst (λ (M : Normal). IsTranslation M o B) same t.0))

  -- of each layout
  pub printed_models : (layout : Layout) → Prints l layout N o R (Ok text) → (B : Automaton) × (text ≡ laid_out layout B R) × IsTold layout B × AcceptsModels B F
  printed_models Claim h =
      let (B, t, e) = then_ok (Translates l N o) (λ B r. r ≡ Ok (never_text B R)) text h in
      let m = plain B t in
      (B, same_ok text (never_text B R) e, m.0, m.1)
  printed_models Hoa h =
      let (B, t, e) = then_ok (Translates l N o) (λ B r. r ≡ Ok (hoa_text B R)) text h in
      let m = plain B t in
      (B, same_ok text (hoa_text B R) e, m.0, m.1)
  printed_models Generalized h =
      let (A, t, e) = then_ok (TranslatesGeneralized l N o) (λ A r. r ≡ Ok (generalized_text A R)) text h in
      let translated = subst (λ (M : Normal). IsGeneralizedTranslation M o A) same t.0 in
      (A, same_ok text (generalized_text A R) e, translation_accepting (core F false rewrite) o A translated, generalized_models F rewrite o A translated)

module _ (l : Limits) (few : l.states < 2 ^ 64) where
  -- a claim that is printed is read as one that accepts the models
  claim_read : (input : Input) (R : Reading) → IsFormulaIn l input R → (rewrite : Bool) (N : Normal) → N ≡ core R.formula false rewrite → (o : Options) (text : List ℕ)
      → (layout : Layout) → Prints l layout N o R (Ok text) → layout ≡ Claim → HasNoPromelaWord R.names → IsClaimOfModels R text
  claim_read input R reads rewrite N same o text Claim h e free =
      let (B, t, q) = then_ok (Translates l N o) (λ B r. r ≡ Ok (never_text B R)) text h in
      let (source, whole, parses) = reads in
      subst (IsClaimOfModels R) (sym (same_ok text (never_text B R) q))
      (printed_models_read source R parses.1 rewrite N same o B l.states l.edges t.0 t.1 few (plain l R.formula rewrite N same o R text B t).1 free)
  claim_read input R reads rewrite N same o text Hoa h e free = cc
  claim_read input R reads rewrite N same o text Generalized h e free = cc

module _ (l : Limits) (few : l.states < 2 ^ 64) (p : TranslatorPlan) (input : Input) where
  prints_models : (text : List ℕ) → TranslatorPrints l p input (Ok text) → IsTextOfModels l (Some p) input text × IsReadAsModels l (Some p) input text
  prints_models text h =
      let (R, taken, h1) = then_ok (InputReads l (input_of p.formula input)) (λ R. Then (KeepsRows l (core R.formula false p.rewrite)) (λ N. Prints l p.layout N p.options R)) text h in
      let (N, kept, h2) = then_ok (KeepsRows l (core R.formula false p.rewrite)) (λ N. Prints l p.layout N p.options R) text h1 in
      let (B, e, told, models) = printed_models l R.formula p.rewrite N kept.0 p.options R text p.layout h2 in
      let reads = formula_in l (input_of p.formula input) R taken in
      let claim = claim_read l few (input_of p.formula input) R reads p.rewrite N kept.0 p.options text p.layout h2 in (
        record { asked = p; words = refl; formula = R; reads = reads; automaton = B; printed = e; told = told; models = models },
        record { asked = p; words = refl; formula = R; reads = reads; claim = claim },
      )

  answer_models : (seen : Seen) (r : Result (List ℕ) Refusal) → TranslatorPrints l p input r → seen.status ≡ (answer_by l Translator (λ text. printed text 0) r).status
      → seen.output ≡ (answer_by l Translator (λ text. printed text 0) r).output → TellsModels l (Some p) input seen
  answer_models seen (Ok text) h st o done = subst (λ (x : List ℕ). IsTextOfModels l (Some p) input x × IsReadAsModels l (Some p) input x) (sym o) (prints_models text h)
  answer_models seen (Err e) h st o done = let high = refusals_high e in absurd (omega (arith, high, st, done))

-- what a run of the translator may show tells of models
pub promised_models : (l : Limits) → l.states < 2 ^ 64 → (plan : Option TranslatorPlan) (input : Input) (seen : Seen) → IsPromised l Translator (TranslatorAnswers l plan input) seen → TellsModels l plan input seen
promised_models l few plan input seen h = promise_holds l Translator (TranslatorAnswers l plan input) (TellsModels l plan input) seen (right plan) (λ high done. absurd (omega (arith, high, done))) h
  where
    right : (plan : Option TranslatorPlan) (a : Answer) → TranslatorAnswers l plan input a → seen.status ≡ a.status → seen.output ≡ a.output → TellsModels l plan input seen
    right None a e st o = λ done. let s = st ∙ ap (λ (x : Answer). x.status) e in absurd (omega (arith, s, done))
    right (Some p) a (r, h, e) st o = answer_models l few p input seen r h (st ∙ ap (λ (x : Answer). x.status) e) (o ∙ ap (λ (x : Answer). x.output) e)
