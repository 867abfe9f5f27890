-- The steps of the translator before it prints, as the definitions have them.
use Rattle.std.specs.Prelude.{ℕ, Bool, false, List, Result}
use Rattle.ltl_syntax.specs.FormulaView.{FormulaView, reading_of}
use Rattle.ltl_spec.specs.Formulas.Formula.{Reading}
use Rattle.ltl_spec.specs.NormalForms.NormalForm.{core}
use Rattle.ltl_spec.specs.Automata.Automaton.{Automaton}
use Rattle.ltl_spec.specs.Construction.Translation.{Options}
use Rattle.ltl_spec.specs.Tools.Limits.{stated_limits}
use Rattle.ltl_spec.specs.Tools.Refusal as spec
use Rattle.ltl_spec.specs.Tools.Outcome.{Input, Then}
use Rattle.ltl_spec.specs.Tools.Programs.{Layout, Claim, Hoa, Generalized, KeepsRows, Prints, TranslatorPrints, Translates, TranslatesGeneralized}
use Rattle.ltl_spec.specs.Tools.Run.{laid_out}
use Rattle.ltl_cli.specs.declared.refusal.Refusal.{Refusal}
use Rattle.ltl_cli.specs.declared.printable.Printable.{Printable}
use Rattle.ltl_cli.specs.declared.shown.Shown.{Shown}
use Rattle.ltl_cli.specs.declared.shown.Shown.TheVariants as shown
use Rattle.ltl_words.specs.declared.request.Plan.{Plan}
use Rattle.ltl_words.specs.Words.{translator_plan}
use Rattle.ltl_words.specs.Plans.{formula_word, layout_in, request_in}
use Rattle.ltl_cli.specs.Inputs.{IsFound}

-- from a formula to the automaton of its normal form
abbrev pub MakesAutomaton : Reading → Bool → Bool → Options → Result Automaton spec.Refusal → Type 0
MakesAutomaton R negate rewrite o = Then (KeepsRows stated_limits (core R.formula negate rewrite)) (λ N. Translates stated_limits N o)

-- the same for the generalized automaton
abbrev pub MakesGeneralized : Reading → Bool → Options → Result Automaton spec.Refusal → Type 0
MakesGeneralized R rewrite o = Then (KeepsRows stated_limits (core R.formula false rewrite)) (λ N. TranslatesGeneralized stated_limits N o)

-- from a formula to the text of its automaton
abbrev pub MakesText : Layout → Reading → Bool → Options → Result (List ℕ) spec.Refusal → Type 0
MakesText layout R rewrite o = Then (KeepsRows stated_limits (core R.formula false rewrite)) (λ N. Prints stated_limits layout N o R)

-- from a formula to the automaton that a layout prints
abbrev pub MakesShown : Layout → Reading → Bool → Options → Result Automaton spec.Refusal → Type 0
MakesShown Claim R rewrite o = MakesAutomaton R false rewrite o
MakesShown Hoa R rewrite o = MakesAutomaton R false rewrite o
MakesShown Generalized R rewrite o = MakesGeneralized R rewrite o

-- the automaton of the code
abbrev pub shown_in : {A : Type 0} → Shown A → Automaton
shown_in (shown.Buchi B) = B
shown_in (shown.Generalized G) = G

abbrev pub automaton_in : {A : Type 0} → Printable A → Automaton
automaton_in p = shown_in p.automaton

-- its text in a layout; a layout of the other kind of automaton is none of this automaton's
abbrev pub shown_text : {A : Type 0} → Layout → Shown A → Reading → List ℕ
shown_text Claim (shown.Buchi B) R = laid_out Claim B R
shown_text Hoa (shown.Buchi B) R = laid_out Hoa B R
shown_text Generalized (shown.Buchi B) R = laid_out Hoa B R
shown_text layout (shown.Generalized G) R = laid_out Generalized G R

abbrev pub text_of : {A : Type 0} → Printable A → FormulaView → List ℕ
text_of p f = shown_text (layout_in p.layout) p.automaton (reading_of f)

-- what the definitions say of the plan and the input
abbrev pub PlanPrints : Plan → Input → Result (List ℕ) spec.Refusal → Type 0
PlanPrints p = TranslatorPrints stated_limits (translator_plan (request_in p))

-- a formula and its automaton, whose text the definitions say is printed, or a refusal
abbrev pub IsTranslated : {T : Type 0} → Plan → Input → (T → List ℕ) → Result T Refusal → Type 0
IsTranslated p input text = IsFound (formula_word p.formula) input (PlanPrints p input) text
