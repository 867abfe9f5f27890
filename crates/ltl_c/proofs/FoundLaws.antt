-- The automaton that is asked for, and what the program says of it.
use Rattle.std.proofs.Common.{◌≡◌, ◌∙◌, ◌⊎◌, ap, sym, subst, refl, inl, inr, not, ℕ, List, [], Option, Some, None}
use Rattle.std.specs.Prelude.{Result, Ok, Err, MatchResult, option_map}
use Rattle.ltl_spec.specs.Automata.Automaton.{Automaton}
use Rattle.ltl_spec.specs.Formulas.Formula.{Reading}
use Rattle.ltl_spec.specs.Formulas.Grammar.{IsTextOf}
use Rattle.ltl_spec.specs.Semantics.Language.{AcceptsModels}
use Rattle.ltl_spec.specs.Tools.Limits.{stated_limits}
use Rattle.ltl_spec.specs.Tools.Outcome.{NotOpened, Text, Then, printed, refused, taken}
use Rattle.ltl_spec.specs.Tools.Programs.{InputReads, Layout, ReadsFormula, TranslatorAnswers, TranslatorPlan}
use Rattle.ltl_spec.specs.Tools.Refusal as spec
use Rattle.ltl_spec.specs.Tools.Refusal.{Translator, message, status_of}
use Rattle.ltl_spec.specs.Tools.Run.{laid_out}
use Rattle.ltl_spec.proofs.Tools.StepLaws.{never, same_ok, same_some, then_ok}
use Rattle.ltl_words.specs.declared.layout.Layout as code
use Rattle.ltl_words.specs.Plans.{layout_in}
use Rattle.ltl_cli.specs.declared.refusal.Refusal.{Refusal}
use Rattle.ltl_cli.specs.declared.refusal.Refusal.TheVariants.{OutOfMemory, Usage}
use Rattle.ltl_cli.specs.Refusals.{TakesStep, refusal_of}
use Rattle.ltl_cli.specs.Translations.{MakesShown, MakesText}
use Rattle.ltl_cli.proofs.AutomatonLaws.{shown_made, shown_models, shown_refused}
use Rattle.ltl_c.specs.declared.text_options.TextOptions.{TextOptions}
use Rattle.ltl_c.specs.Arrays.{FindsPlanned, Found, MakesAsked, found}
use Rattle.ltl_c.specs.Calls.{MayEnd, PrintsAsked, layout_numbered, plan_with, translator_asked}
use Rattle.ltl_c.proofs.CallLaws.{answer_ends, asked_answers, refusal_ends}
use Rattle.ltl_c.proofs.StepLaws.{Refuses, first_refused, second_refused}

-- ---- the options

module _ (text : List ℕ) (o : TextOptions) (at : Option code.Layout) (same : option_map layout_in at ≡ layout_numbered o.layout) where
  path : (x : Option code.Layout) → at ≡ x → option_map layout_in x ≡ layout_numbered o.layout
  path x e = subst (λ (y : Option code.Layout). option_map layout_in y ≡ layout_numbered o.layout) e same

  pub nothing_asked : at ≡ None → Refuses (MakesAsked text o) Usage
  nothing_asked e = inr (subst (λ (x : Option Layout). FindsPlanned text (option_map (plan_with text o) x) (Err spec.Usage)) (path None e) refl)

  module _ (layout : code.Layout) (e : at ≡ Some layout) where
    abbrev Planned : Result Found spec.Refusal → Type 0
    Planned = FindsPlanned text (Some (plan_with text o (layout_in layout)))

    asked : (r : Result Found spec.Refusal) → Planned r → MakesAsked text o r
    asked r h = subst (λ (x : Option Layout). FindsPlanned text (option_map (plan_with text o) x) r) (path (Some layout) e) h

    abbrev Reads : Result Reading spec.Refusal → Type 0
    Reads = InputReads stated_limits (Text text)

    abbrev Makes : Reading → Result Automaton spec.Refusal → Type 0
    Makes R = MakesShown (layout_in layout) R (not o.no_rewrite) (record { keep_implied = o.keep_implied; keep_equal = o.keep_equal })

    abbrev Both : Reading → Result Found spec.Refusal → Type 0
    Both R = Then (Makes R) (λ B r. r ≡ Ok (found R B))

    refuses : (x : Refusal) → Refuses (Then Reads Both) x → Refuses (MakesAsked text o) x
    refuses x (inl m) = inl m
    refuses x (inr h) = inr (asked (Err (refusal_of x)) h)

    -- the formula is refused
    pub formula_not_found : (x : Refusal) → Refuses Reads x → Refuses (MakesAsked text o) x
    formula_not_found x h = refuses x (first_refused Reads Both x h)

    module _ (R : Reading) (reads : Reads (Ok R)) where
      -- or its automaton
      pub automaton_not_found : (x : Refusal) → Refuses (Makes R) x → Refuses (MakesAsked text o) x
      automaton_not_found x h = refuses x (second_refused Reads Both R reads x (first_refused (Makes R) (λ B r. r ≡ Ok (found R B)) x h))

      pub both_found : (B : Automaton) → Makes R (Ok B) → MakesAsked text o (Ok (found R B))
      both_found B h = asked (Ok (found R B)) (inr (R, reads, inr (B, h, refl)))

    -- a text in this layout is one in the layout that is asked for
    pub asked_text : (R : Reading) (B : Automaton) (t : List ℕ) → t ≡ laid_out (layout_in layout) B R → (l : Layout) → layout_numbered o.layout ≡ Some l → t ≡ laid_out l B R
    asked_text R B t q l n = subst (λ (x : Layout). t ≡ laid_out x B R) (same_some (layout_in layout) l (path (Some layout) e ∙ n)) q

-- ---- what the program says

module _ (text : List ℕ) (o : TextOptions) where
  -- of a formula and an automaton
  pub record IsShown (R : Reading) (B : Automaton) : Type 0 where
    pub read : IsTextOf text R
    pub layout : Layout
    pub asked : layout_numbered o.layout ≡ Some layout
    pub models : AcceptsModels B R.formula
    pub shown : MayEnd Translator (translator_asked text o) NotOpened 0 (laid_out layout B R) []

  read_text : (R : Reading) → InputReads stated_limits (Text text) (Ok R) → IsTextOf text R
  read_text R h =
      let (t, e, reads) = then_ok (λ r. r ≡ taken stated_limits.formula_bytes (Text text)) (ReadsFormula stated_limits) R h in
      subst (λ (x : List ℕ). IsTextOf x R) (same_ok t text e) reads.1

  shown_by : (R : Reading) (B : Automaton) (x : Option Layout) → layout_numbered o.layout ≡ x → FindsPlanned text (option_map (plan_with text o) x) (Ok (found R B)) → IsShown R B
  shown_by R B None e h = absurd (never (found R B) spec.Usage (sym h))
  shown_by R B (Some layout) e h =
      let p = plan_with text o layout in
      let (S, reads, h1) = then_ok (InputReads stated_limits (Text text)) (λ R. Then (MakesShown layout R p.rewrite p.options) (λ B r. r ≡ Ok (found R B))) (found R B) h in
      let (C, makes, h2) = then_ok (MakesShown layout S p.rewrite p.options) (λ B r. r ≡ Ok (found S B)) (found R B) h1 in
      subst (λ (f : Found). IsShown f.reading f.automaton) (sym (same_ok (found R B) (found S C) h2)) (record {
        read = read_text S reads;
        layout = layout;
        asked = e;
        models = shown_models layout S p.rewrite p.options C makes;
        shown = answer_ends Translator (translator_asked text o) NotOpened (printed (laid_out layout C S) 0)
            (subst (λ (x : Option Layout). TranslatorAnswers stated_limits (option_map (plan_with text o) x) NotOpened (printed (laid_out layout C S) 0)) (sym e)
            (asked_answers (Some p) (Ok (laid_out layout C S)) (inr (S, reads, shown_made S p.rewrite p.options layout C makes)))) refl;
      })

  pub is_shown : (R : Reading) (B : Automaton) → MakesAsked text o (Ok (found R B)) → IsShown R B
  is_shown R B h = shown_by R B (layout_numbered o.layout) refl h

  -- of a refusal
  moved : (x y : spec.Refusal) → ◌≡◌ {A = Result Found spec.Refusal} (Err x) (Err y) → ◌≡◌ {A = Result (List ℕ) spec.Refusal} (Err x) (Err y)
  moved x y e = cc

  text_not_made : (p : TranslatorPlan) (R : Reading) (x : spec.Refusal) → Then (MakesShown p.layout R p.rewrite p.options) (λ B r. r ≡ Ok (found R B)) (Err x) → MakesText p.layout R p.rewrite p.options (Err x)
  text_not_made p R x (inl (y, h, e)) = subst (λ (r : Result (List ℕ) spec.Refusal). MakesText p.layout R p.rewrite p.options r) (sym (moved x y e)) (shown_refused R p.rewrite p.options p.layout y h)
  text_not_made p R x (inr (B, h, e)) = absurd (never (found R B) x e)

  not_printed : (x : spec.Refusal) (l : Option Layout) → FindsPlanned text (option_map (plan_with text o) l) (Err x) → PrintsAsked (option_map (plan_with text o) l) (Err x)
  not_printed x None h = moved x spec.Usage h
  not_printed x (Some layout) (inl (y, h, e)) = inl (y, h, moved x y e)
  not_printed x (Some layout) (inr (R, h, k)) = inr (R, h, text_not_made (plan_with text o layout) R x k)

  pub made_not_printed : (e : Refusal) → Refuses (MakesAsked text o) e → Refuses (PrintsAsked (translator_asked text o)) e
  made_not_printed e (inl m) = inl m
  made_not_printed e (inr h) = inr (not_printed (refusal_of e) (layout_numbered o.layout) h)

  -- of what is printed
  printed_by : (R : Reading) (B : Automaton) (t : List ℕ) (x : Option Layout) → ((l : Layout) → x ≡ Some l → t ≡ laid_out l B R) → FindsPlanned text (option_map (plan_with text o) x) (Ok (found R B)) → PrintsAsked (option_map (plan_with text o) x) (Ok t)
  printed_by R B t None q h = absurd (never (found R B) spec.Usage (sym h))
  printed_by R B t (Some layout) q h =
      let p = plan_with text o layout in
      let (S, reads, h1) = then_ok (InputReads stated_limits (Text text)) (λ R. Then (MakesShown layout R p.rewrite p.options) (λ B r. r ≡ Ok (found R B))) (found R B) h in
      let (C, makes, h2) = then_ok (MakesShown layout S p.rewrite p.options) (λ B r. r ≡ Ok (found S B)) (found R B) h1 in
      let same = same_ok (found R B) (found S C) h2 in
      inr (S, reads, subst (λ (u : List ℕ). MakesText layout S p.rewrite p.options (Ok u)) (sym (q layout refl ∙ ap (λ (f : Found). laid_out layout f.automaton f.reading) same)) (shown_made S p.rewrite p.options layout C makes))

  pub made_printed : (R : Reading) (B : Automaton) → MakesAsked text o (Ok (found R B)) → {F : Type 0} (view : F → List ℕ) (u : List ℕ) → ((l : Layout) → layout_numbered o.layout ≡ Some l → u ≡ laid_out l B R)
      → (r : Result F Refusal) → MatchResult r (λ v. view v ≡ u) (λ e. e ≡ OutOfMemory) → TakesStep (PrintsAsked (translator_asked text o)) view r
  made_printed R B h view u q (Ok v) e = printed_by R B (view v) (layout_numbered o.layout) (λ l n. e ∙ q l n) h
  made_printed R B h view u q (Err x) e = inl e

  pub is_refused : (e : Refusal) → Refuses (MakesAsked text o) e → (n : ℕ) → n ≡ status_of (refusal_of e)
      → MayEnd Translator (translator_asked text o) NotOpened n [] (message stated_limits Translator (refusal_of e))
  is_refused e h n q = subst (λ m. MayEnd Translator (translator_asked text o) NotOpened m [] (message stated_limits Translator (refusal_of e))) (sym q)
      (refusal_ends Translator (translator_asked text o) NotOpened e (answers h))
    where
      answers : Refuses (MakesAsked text o) e → (e ≡ OutOfMemory) ⊎ TranslatorAnswers stated_limits (translator_asked text o) NotOpened (refused stated_limits Translator (refusal_of e))
      answers (inl m) = inl m
      answers (inr k) = inr (asked_answers (translator_asked text o) (Err (refusal_of e)) (not_printed (refusal_of e) (layout_numbered o.layout) k))
