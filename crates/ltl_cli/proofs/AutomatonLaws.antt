-- What was translated, as a step of the definitions.
use Rattle.std.proofs.Common.{◌≡◌, ◌∙◌, ap, sym, subst, refl, ℕ, suc, ◌+◌, ◌≤◌, Bool, true, false, cond, ◌||◌, inl, inr, ◌⊎◌, List, [], ◌∷◌, filter, length, arith}
use Rattle.std.specs.Prelude.{map, Result, Ok, Err}
use Rattle.ltl_spec.specs.Collections.Lists.{places_from}
use Rattle.ltl_spec.specs.Formulas.Formula.{Reading}
use Rattle.ltl_spec.specs.Formulas.Tokens.{tokens}
use Rattle.ltl_spec.specs.Formulas.Grammar.{IsTextOf}
use Rattle.ltl_spec.specs.NormalForms.Normal.{Normal, same}
use Rattle.ltl_spec.specs.NormalForms.NormalForm.{core, rows, elementary_rows, is_elementary}
use Rattle.ltl_spec.specs.Automata.Automaton.{Automaton}
use Rattle.ltl_spec.specs.Automata.ClaimText.{never_text}
use Rattle.ltl_spec.specs.Automata.HoaText.{hoa_text}
use Rattle.ltl_spec.specs.Automata.Generalized.{IsTooLarge}
use Rattle.ltl_spec.specs.Automata.GeneralizedText.{IsGeneralizedTranslation, generalized_text}
use Rattle.ltl_spec.specs.Construction.Translation.{Options, IsTranslation, IsTranslationTooLarge}
use Rattle.ltl_spec.specs.Semantics.Language.{AcceptsModels}
use Rattle.ltl_spec.specs.Checking.Bounds.{HasNamesBelow}
use Rattle.ltl_spec.specs.Tools.Limits.{stated_limits}
use Rattle.ltl_spec.specs.Tools.Refusal as spec
use Rattle.ltl_spec.specs.Tools.Outcome.{Then}
use Rattle.ltl_spec.specs.Tools.Programs.{Layout, Claim, Hoa, Generalized, KeepsRows, Translates, TranslatesGeneralized}
use Rattle.ltl_spec.specs.Tools.Run.{laid_out}
use Rattle.ltl_spec.proofs.Collections.MemberLaws.{map_length}
use Rattle.ltl_spec.proofs.NormalForms.SharedNodes.{trees_length}
use Rattle.ltl_formula.specs.SharedNodesView.{node_of}
use Rattle.ltl_spec.proofs.Checking.BelowLaws.{parsed_below}
use Rattle.ltl_spec.proofs.Semantics.LanguageLaws.{generalized_models, translation_models}
use Rattle.ltl_formula.specs.TableView.{TableView, IsTable, core_of, row_trees}
use Rattle.ltl_models.specs.Named.{HasNamesOf}
use Rattle.ltl_automaton.specs.declared.fault.AutomatonFault.{AutomatonFault}
use Rattle.ltl_automaton.specs.declared.fault.AutomatonFault.TheVariants as fault
use Rattle.ltl_cli.specs.declared.refusal.Refusal.TheVariants.{OutOfMemory}
use Rattle.ltl_cli.specs.Refusals.{of_translation, refusal_of}
use Rattle.ltl_cli.specs.Translations.{MakesAutomaton, MakesGeneralized, MakesShown, MakesText}
use Rattle.ltl_spec.proofs.Tools.StepLaws.{never}

trees_long : (t : TableView) → length (row_trees t.rows) ≡ length t.rows
trees_long t = trees_length (map node_of t.rows) ∙ map_length node_of t.rows

-- as many places as elements that pass
places_count : {K : Type 0} (p : K → Bool) (n : ℕ) (xs : List K) → length (places_from p n xs) ≡ length (filter p xs)
places_count p n [] = refl
places_count p n (x ∷ xs) = chosen (p x) (places_count p (n + 1) xs)
  where
    chosen : (b : Bool) → length (places_from p (n + 1) xs) ≡ length (filter p xs)
        → length (cond b (n ∷ places_from p (n + 1) xs) (places_from p (n + 1) xs)) ≡ length (cond b (x ∷ filter p xs) (filter p xs))
    chosen true e = ap suc e
    chosen false e = e

-- a table is within the limits
pub table_kept : (t : TableView) (N : Normal) → IsTable t → core_of t ≡ N → KeepsRows stated_limits N (Ok N)
table_kept t N h e = subst (λ (M : Normal). KeepsRows stated_limits M (Ok M)) e (refl, few, few_elementary)
  where
    few : length (rows (core_of t)) ≤ stated_limits.rows
    few =
        let counted = ap length (sym h.table.rows) ∙ trees_long t in
        let most = h.few in
        omega (arith, counted, most)

    few_elementary : length (elementary_rows (core_of t)) ≤ stated_limits.elementary_rows
    few_elementary =
        let counted = ap length h.table.elementary ∙ places_count (λ a. is_elementary a || same a (core_of t)) 0 (rows (core_of t)) in
        let most = h.few_elementary in
        omega (arith, counted, most)

-- the automaton is too large, or memory was refused
pub translation_refused : (t : TableView) (N : Normal) (o : Options) (e : AutomatonFault) → IsTable t → core_of t ≡ N
    → (◌≡◌ {A = Result Automaton AutomatonFault} (Err e) (Err fault.TooLarge) → IsTranslationTooLarge (core_of t) o stated_limits.states stated_limits.edges)
    → (of_translation e ≡ OutOfMemory) ⊎ Then (KeepsRows stated_limits N) (λ M. Translates stated_limits M o) (Err (refusal_of (of_translation e)))
translation_refused t N o fault.TooLarge h c large =
    inr (inr (N, table_kept t N h c, subst (λ (M : Normal). IsTranslationTooLarge M o stated_limits.states stated_limits.edges) c (large refl)))
translation_refused t N o fault.OutOfMemory h c large = inl refl

pub translation_made : (t : TableView) (N : Normal) (o : Options) (B : Automaton) → IsTable t → core_of t ≡ N → IsTranslation (core_of t) o B
    → ¬ (IsTranslationTooLarge (core_of t) o stated_limits.states stated_limits.edges) → Then (KeepsRows stated_limits N) (λ M. Translates stated_limits M o) (Ok B)
translation_made t N o B h c made fits =
    inr (N, table_kept t N h c, subst (λ (M : Normal). IsTranslation M o B × ¬ (IsTranslationTooLarge M o stated_limits.states stated_limits.edges)) c (made, fits))

-- the same for the generalized automaton

pub generalized_refused : (t : TableView) (N : Normal) (o : Options) (e : AutomatonFault) → IsTable t → core_of t ≡ N
    → (◌≡◌ {A = Result Automaton AutomatonFault} (Err e) (Err fault.TooLarge) → IsTooLarge (core_of t) o.keep_implied stated_limits.states stated_limits.edges)
    → (of_translation e ≡ OutOfMemory) ⊎ Then (KeepsRows stated_limits N) (λ M. TranslatesGeneralized stated_limits M o) (Err (refusal_of (of_translation e)))
generalized_refused t N o fault.TooLarge h c large =
    inr (inr (N, table_kept t N h c, subst (λ (M : Normal). IsTooLarge M o.keep_implied stated_limits.states stated_limits.edges) c (large refl)))
generalized_refused t N o fault.OutOfMemory h c large = inl refl

pub generalized_made : (t : TableView) (N : Normal) (o : Options) (G : Automaton) → IsTable t → core_of t ≡ N → IsGeneralizedTranslation (core_of t) o G
    → ¬ (IsTooLarge (core_of t) o.keep_implied stated_limits.states stated_limits.edges) → Then (KeepsRows stated_limits N) (λ M. TranslatesGeneralized stated_limits M o) (Ok G)
generalized_made t N o G h c made fits =
    inr (N, table_kept t N h c, subst (λ (M : Normal). IsGeneralizedTranslation M o G × ¬ (IsTooLarge M o.keep_implied stated_limits.states stated_limits.edges)) c (made, fits))

-- ---- from the automaton to its text

inside : (x y : spec.Refusal) → ◌≡◌ {A = Result (List ℕ) spec.Refusal} (Err y) (Err x) → x ≡ y
inside x y p = cc

-- a step that makes the automaton, and then the text of what it made
module _ (N : Normal) (Makes : Normal → Result Automaton spec.Refusal → Type 0) (text : Automaton → List ℕ) where
  abbrev Making : Result Automaton spec.Refusal → Type 0
  Making = Then (KeepsRows stated_limits N) Makes

  abbrev Texting : Result (List ℕ) spec.Refusal → Type 0
  Texting = Then (KeepsRows stated_limits N) (λ M. Then (Makes M) (λ B r. r ≡ Ok (text B)))

  pub text_made : (B : Automaton) → Making (Ok B) → Texting (Ok (text B))
  text_made B (inl h) = absurd (never B h.0 (sym h.2))
  text_made B (inr (M, k, h)) = inr (M, k, inr (B, h, refl))

  moved : (x y : spec.Refusal) → ◌≡◌ {A = Result Automaton spec.Refusal} (Err x) (Err y) → ◌≡◌ {A = Result (List ℕ) spec.Refusal} (Err x) (Err y)
  moved x y p = cc

  pub text_refused : (x : spec.Refusal) → Making (Err x) → Texting (Err x)
  text_refused x (inl (y, h, q)) = inl (y, h, moved x y q)
  text_refused x (inr (M, k, h)) = inr (M, k, inl (x, h, refl))

  -- where the step doesn't say that memory was refused, the text doesn't
  pub text_takes : ((M : Normal) → Makes M (Err spec.OutOfMemory) → ⊥) → Texting (Err spec.OutOfMemory) → ⊥
  text_takes takes (inl h) = subst (λ (y : spec.Refusal). KeepsRows stated_limits N (Err y)) (inside h.0 spec.OutOfMemory h.2) h.1
  text_takes takes (inr (M, k, inl h)) = takes M (subst (λ (y : spec.Refusal). Makes M (Err y)) (inside h.0 spec.OutOfMemory h.2) h.1)
  text_takes takes (inr (M, k, inr h)) = never (text h.0) spec.OutOfMemory h.2

-- The layouts. There is an automaton, or none
module _ (R : Reading) (rewrite : Bool) (o : Options) where
  abbrev normal : Normal
  normal = core R.formula false rewrite

  pub shown_made : (layout : Layout) (B : Automaton) → MakesShown layout R rewrite o (Ok B) → MakesText layout R rewrite o (Ok (laid_out layout B R))
  shown_made Claim = text_made normal (λ M. Translates stated_limits M o) (λ B. never_text B R)
  shown_made Hoa = text_made normal (λ M. Translates stated_limits M o) (λ B. hoa_text B R)
  shown_made Generalized = text_made normal (λ M. TranslatesGeneralized stated_limits M o) (λ G. generalized_text G R)

  pub shown_refused : (layout : Layout) (x : spec.Refusal) → MakesShown layout R rewrite o (Err x) → MakesText layout R rewrite o (Err x)
  shown_refused Claim = text_refused normal (λ M. Translates stated_limits M o) (λ B. never_text B R)
  shown_refused Hoa = text_refused normal (λ M. Translates stated_limits M o) (λ B. hoa_text B R)
  shown_refused Generalized = text_refused normal (λ M. TranslatesGeneralized stated_limits M o) (λ G. generalized_text G R)

-- no step says that memory was refused
pub making_takes : (layout : Layout) (R : Reading) (rewrite : Bool) (o : Options) → MakesText layout R rewrite o (Err spec.OutOfMemory) → ⊥
making_takes Claim R rewrite o = text_takes (core R.formula false rewrite) (λ M. Translates stated_limits M o) (λ B. never_text B R) (λ M h. h)
making_takes Hoa R rewrite o = text_takes (core R.formula false rewrite) (λ M. Translates stated_limits M o) (λ B. hoa_text B R) (λ M h. h)
making_takes Generalized R rewrite o = text_takes (core R.formula false rewrite) (λ M. TranslatesGeneralized stated_limits M o) (λ G. generalized_text G R) (λ M h. h)

-- the automaton accepts exactly the words that satisfy the formula

translating_models : (R : Reading) (rewrite : Bool) (o : Options) (B : Automaton) → MakesAutomaton R false rewrite o (Ok B) → AcceptsModels B R.formula
translating_models R rewrite o B (inl h) = absurd (never B h.0 (sym h.2))
translating_models R rewrite o B (inr (M, k, h)) = translation_models R.formula rewrite o B (subst (λ (N : Normal). IsTranslation N o B) k.0 h.0)

generalizing_models : (R : Reading) (rewrite : Bool) (o : Options) (G : Automaton) → MakesGeneralized R rewrite o (Ok G) → AcceptsModels G R.formula
generalizing_models R rewrite o G (inl h) = absurd (never G h.0 (sym h.2))
generalizing_models R rewrite o G (inr (M, k, h)) = generalized_models R.formula rewrite o G (subst (λ (N : Normal). IsGeneralizedTranslation N o G) k.0 h.0)

pub shown_models : (layout : Layout) (R : Reading) (rewrite : Bool) (o : Options) (B : Automaton) → MakesShown layout R rewrite o (Ok B) → AcceptsModels B R.formula
shown_models Claim = translating_models
shown_models Hoa = translating_models
shown_models Generalized = generalizing_models

-- and the literals are of the formula's propositions
pub read_named : (text : List ℕ) (R : Reading) → IsTextOf text R → (negate rewrite : Bool) (N : Normal) → N ≡ core R.formula negate rewrite → (A : Automaton) → HasNamesOf N A → HasNamesBelow (length R.names) A
read_named text R reads negate rewrite N e A named = named (length R.names) R.formula negate rewrite (parsed_below 5 (tokens text) R.formula reads.1) e
