-- What the translator knows before it prints.
use Rattle.std.proofs.Common.{◌≡◌, refl, sym, subst, inl, inr, ◌⊎◌, Bool, List, ℕ, arith}
use Rattle.std.specs.Prelude.{Result, Some, Ok, Err}
use Rattle.ltl_spec.specs.Automata.Automaton.{Automaton}
use Rattle.ltl_spec.specs.Construction.Translation.{Options}
use Rattle.ltl_spec.specs.Tools.Limits.{stated_limits}
use Rattle.ltl_spec.specs.Tools.Refusal as spec
use Rattle.ltl_spec.specs.Tools.Outcome.{Input, IsNeverShort, input_of, printed}
use Rattle.ltl_spec.specs.Tools.Programs.{InputReads}
use Rattle.ltl_syntax.specs.FormulaView.{FormulaView, reading_of}
use Rattle.ltl_cli.specs.declared.refusal.Refusal.{Refusal}
use Rattle.ltl_cli.specs.declared.refusal.Refusal.TheVariants.{OutOfMemory}
use Rattle.ltl_words.specs.declared.request.Plan.{Plan}
use Rattle.ltl_cli.specs.Refusals.{refusal_of}
use Rattle.ltl_words.specs.Plans.{formula_word, layout_in}
use Rattle.ltl_cli.specs.Inputs.{RefusesFor, RefusesInput}
use Rattle.ltl_spec.specs.Tools.Run.{laid_out}
use Rattle.ltl_words.specs.declared.layout.Layout as code
use Rattle.ltl_cli.specs.Translations.{MakesShown, MakesText, PlanPrints}
use Rattle.ltl_cli.proofs.AutomatonLaws.{making_takes, shown_made, shown_refused}
use Rattle.ltl_cli.proofs.InputLaws.{reads_takes}
use Rattle.ltl_cli.proofs.RunLaws.{DecidesAnswers, input_refused, input_takes, then_takes}

-- the formula was refused
pub formula_refused : (p : Plan) (input : Input) (e : Refusal) → RefusesInput (formula_word p.formula) input e → RefusesFor (formula_word p.formula) input (PlanPrints p input) e
formula_refused p input = input_refused (formula_word p.formula) input (λ R. MakesText (layout_in p.layout) R p.rewrite p.options)

-- it was read
module _ (p : Plan) (input : Input) (f : FormulaView) (reads : InputReads stated_limits (input_of (formula_word p.formula) input) (Ok (reading_of f))) where
  module _ (layout : code.Layout) (rewrite : Bool) (o : Options) (same_layout : layout ≡ p.layout) (same_rewrite : rewrite ≡ p.rewrite) (same_options : o ≡ p.options) where
    -- what the plan asks for
    planned : (r : Result (List ℕ) spec.Refusal) → MakesText (layout_in layout) (reading_of f) rewrite o r → MakesText (layout_in p.layout) (reading_of f) p.rewrite p.options r
    planned r h = subst (λ (l : code.Layout). MakesText (layout_in l) (reading_of f) p.rewrite p.options r) same_layout
        (subst (λ (b : Bool). MakesText (layout_in layout) (reading_of f) b p.options r) same_rewrite (subst (λ (u : Options). MakesText (layout_in layout) (reading_of f) rewrite u r) same_options h))

    -- it has no automaton
    pub not_shown : (e : Refusal) → (e ≡ OutOfMemory) ⊎ MakesShown (layout_in layout) (reading_of f) rewrite o (Err (refusal_of e)) → RefusesFor (formula_word p.formula) input (PlanPrints p input) e
    not_shown e (inl h) = inl (h, reads_takes (formula_word p.formula) input (reading_of f) reads)
    not_shown e (inr h) = inr (inr (reading_of f, reads, planned (Err (refusal_of e)) (shown_refused (reading_of f) rewrite o (layout_in layout) (refusal_of e) h)))

    -- it has one
    pub shown_prints : (B : Automaton) (text : List ℕ) → MakesShown (layout_in layout) (reading_of f) rewrite o (Ok B) → text ≡ laid_out (layout_in layout) B (reading_of f) → PlanPrints p input (Ok text)
    shown_prints B text h e = inr (
      reading_of f,
      reads,
      subst (λ (t : List ℕ). MakesText (layout_in p.layout) (reading_of f) p.rewrite p.options (Ok t)) (sym e)
          (planned (Ok (laid_out (layout_in layout) B (reading_of f))) (shown_made (reading_of f) rewrite o (layout_in layout) B h)),
    )

-- what is printed decides the answers
pub translator_decides : (p : Plan) (input file : Input) → DecidesAnswers (IsNeverShort stated_limits.formula_bytes (Some (formula_word p.formula)) input) spec.Translator p input file (PlanPrints p input) (λ text. printed text 0)
translator_decides p input file = record {
  right = λ r h. (r, h, refl);
  takes = λ t. t;
  other = then_takes (InputReads stated_limits (input_of (formula_word p.formula) input)) (λ R. MakesText (layout_in p.layout) R p.rewrite p.options) (input_takes (input_of (formula_word p.formula) input))
      (λ R. making_takes (layout_in p.layout) R p.rewrite p.options);
  silent = λ text. refl;
  low = λ text. omega arith;
}
