-- What a run of a program may show, for what its words ask for and for its inputs: a right answer, and what one with status 0 or 1 means.
use Rattle.std.specs.Prelude.{◌≡◌, ℕ, ◌≤◌, ◌↔◌, ◌⊎◌, List, ◌++◌, Option, Some, None, Result, codes}
use Rattle.ltl_spec.specs.Formulas.Formula.{Reading}
use Rattle.ltl_spec.specs.Semantics.Word.{Lasso, IsLasso}
use Rattle.ltl_spec.specs.Semantics.Satisfaction.{Satisfies}
use Rattle.ltl_spec.specs.Semantics.Language.{AcceptsModels}
use Rattle.ltl_spec.specs.Words.LassoText.{IsLassoText, lasso_text}
use Rattle.ltl_spec.specs.Automata.Automaton.{Automaton}
use Rattle.ltl_spec.specs.Automata.ClaimText.{never_text, line}
use Rattle.ltl_spec.specs.Automata.HoaText.{hoa_text}
use Rattle.ltl_spec.specs.Automata.GeneralizedText.{generalized_text}
use Rattle.ltl_spec.specs.Hoa.HoaReading.{AcceptanceForm, MarkedAutomaton}
use Rattle.ltl_spec.specs.Checking.Bounds.{AcceptsEverywhere}
use Rattle.ltl_spec.specs.Checking.Check.{IsViolation, IsContained}
use Rattle.ltl_spec.specs.Claims.ClaimTokens.{HasNoPromelaWord}
use Rattle.ltl_spec.specs.Claims.ClaimMeaning.{IsClaimOfModels}
use Rattle.ltl_spec.specs.Tools.Limits.{Limits}
use Rattle.ltl_spec.specs.Tools.Refusal.{Refusal, Tool, Translator, Checker, Evaluator, CannotWrite, status_of}
use Rattle.ltl_spec.specs.Tools.Stage.{Broken}
use Rattle.ltl_spec.specs.Tools.Outcome.{Answer, Input, IsAtFault, IsPromised, Seen, Then, input_of, taken}
use Rattle.ltl_spec.specs.Tools.Readings.{IsAutomatonIn, IsFormulaIn, IsWordText}
use Rattle.ltl_spec.specs.Tools.Programs.{Layout, Claim, Hoa, Generalized, TranslatorPlan, CheckerPlan, EvaluatorPlan, TranslatorAnswers, CheckerAnswers, EvaluatorAnswers, ReadsHoa}

-- the text of an automaton in a layout
abbrev pub laid_out : Layout → Automaton → Reading → List ℕ
laid_out Claim B R = never_text B R
laid_out Hoa B R = hoa_text B R
laid_out Generalized A R = generalized_text A R

-- The text leaves nothing out: a claim and the text of a Büchi automaton don't tell of sets of edges, and the automaton has none; the text
-- of a generalized automaton doesn't tell which states are accepting, and all are
abbrev pub IsTold : Layout → Automaton → Type 0
IsTold Claim B = B.sets ≡ 0
IsTold Hoa B = B.sets ≡ 0
IsTold Generalized A = AcceptsEverywhere A

-- the output is that of a word that the automaton accepts and that violates the formula, and reads back as that word alone
pub record PrintsViolation (A : MarkedAutomaton) (R : Reading) (output : List ℕ) : Type 0 where
  pub word : Lasso
  pub lasso : IsLasso word
  pub violates : IsViolation A R word
  pub printed : output ≡ line (codes "violated") ++ line (lasso_text word)
  pub reads : IsLassoText (lasso_text word) word

module _ (l : Limits) where
  -- the output is the text of an automaton that accepts exactly the ultimately periodic words that satisfy the formula that was asked for
  pub record IsTextOfModels (plan : Option TranslatorPlan) (input : Input) (output : List ℕ) : Type 0 where
    pub asked : TranslatorPlan
    pub words : plan ≡ Some asked
    pub formula : Reading
    pub reads : IsFormulaIn l (input_of asked.formula input) formula
    pub automaton : Automaton
    pub printed : output ≡ laid_out asked.layout automaton formula
    pub told : IsTold asked.layout automaton
    pub models : AcceptsModels automaton formula.formula

  -- If a never claim was asked for, the output is read as one that accepts exactly these words, unless a proposition of the formula is a word of Promela
  pub record IsReadAsModels (plan : Option TranslatorPlan) (input : Input) (output : List ℕ) : Type 0 where
    pub asked : TranslatorPlan
    pub words : plan ≡ Some asked
    pub formula : Reading
    pub reads : IsFormulaIn l (input_of asked.formula input) formula
    pub claim : asked.layout ≡ Claim → HasNoPromelaWord formula.names → IsClaimOfModels formula output

  -- a run of the translator that ends with status 0 has printed such a text
  abbrev pub TellsModels : Option TranslatorPlan → Input → Seen → Type 0
  TellsModels plan input seen = seen.status ≡ 0 → IsTextOfModels plan input seen.output × IsReadAsModels plan input seen.output

  -- the words ask for a formula and a word, which are read as these
  pub record AreRead (plan : Option EvaluatorPlan) (input : Input) (R : Reading) (w : Lasso) : Type 0 where
    pub asked : EvaluatorPlan
    pub words : plan ≡ Some asked
    pub formula : IsFormulaIn l (input_of asked.formula input) R
    pub word : IsWordText l R.names asked.word w

  -- A run of the evaluator that ends with status 0 or 1 has read a formula and a word, and the status is 0 exactly where that formula holds
  -- at the beginning of that word
  pub record TellsTruth (plan : Option EvaluatorPlan) (input : Input) (seen : Seen) : Type 0 where
    pub reads : seen.status ≤ 1 → (R : Reading) × (w : Lasso) × AreRead plan input R w
    pub truth : seen.status ≤ 1 → (R : Reading) (w : Lasso) → AreRead plan input R w → (seen.status ≡ 0) ↔ Satisfies R.names w 0 R.formula

module _ (l : Limits) (form : AcceptanceForm) where
  -- from the automaton's input to the automaton
  abbrev pub AutomatonReads : Input → Result MarkedAutomaton Refusal → Type 0
  AutomatonReads file = Then (λ r. r ≡ taken l.hoa_bytes file) (ReadsHoa l form)

  -- the words ask for a check, and the inputs are read as this formula and this automaton
  pub record AreInputs (plan : Option CheckerPlan) (input file : Input) (R : Reading) (A : MarkedAutomaton) : Type 0 where
    pub asked : CheckerPlan
    pub words : plan ≡ Some asked
    pub formula : IsFormulaIn l (input_of asked.formula input) R
    pub automaton : IsAutomatonIn l form file A

  -- A run of the checker that ends with status 0 or 1 has read a formula and an automaton. With 0 no word that this automaton accepts
  -- violates this formula; with 1 such a word was printed
  pub record TellsVerdict (plan : Option CheckerPlan) (input file : Input) (seen : Seen) : Type 0 where
    pub reads : seen.status ≤ 1 → (R : Reading) × (A : MarkedAutomaton) × AreInputs plan input file R A
    pub contained : (R : Reading) (A : MarkedAutomaton) → AreInputs plan input file R A → seen.status ≡ 0 → IsContained A R
    pub violated : (R : Reading) (A : MarkedAutomaton) → AreInputs plan input file R A → seen.status ≡ 1 → PrintsViolation A R seen.output

-- ---- all programs

-- what the words of a program ask for
abbrev pub PlanOf : Tool → Type 0
PlanOf Translator = TranslatorPlan
PlanOf Checker = CheckerPlan
PlanOf Evaluator = EvaluatorPlan

-- an input that the program looks at couldn't be opened, or couldn't be read to its end
abbrev pub HasInputAtFault : (tool : Tool) → Option (PlanOf tool) → Input → Input → Type 0
HasInputAtFault tool None input file = ⊥
HasInputAtFault Translator (Some p) input file = IsAtFault (input_of p.formula input)
HasInputAtFault Checker (Some p) input file = IsAtFault (input_of p.formula input) ⊎ IsAtFault file
HasInputAtFault Evaluator (Some p) input file = IsAtFault (input_of p.formula input)

module _ (l : Limits) (form : AcceptanceForm) where
  -- the right answers, where this stands behind the name of the formula's file and this is the automaton's input
  abbrev pub ToolAnswers : (tool : Tool) → Option (PlanOf tool) → Input → Input → Answer → Type 0
  ToolAnswers Translator plan input file = TranslatorAnswers l plan input
  ToolAnswers Checker plan input file = CheckerAnswers l form plan input file
  ToolAnswers Evaluator plan input file = EvaluatorAnswers l plan input

  -- what they mean, by satisfaction and acceptance alone
  abbrev pub ToolTells : (tool : Tool) → Option (PlanOf tool) → Input → Input → Seen → Type 0
  ToolTells Translator plan input file = TellsModels l plan input
  ToolTells Checker plan input file = TellsVerdict l form plan input file
  ToolTells Evaluator plan input file = TellsTruth l plan input

  -- Of a run this was seen: it gave a right answer, or was cut off, what it showed is true, and a status of 5 has a cause
  pub record MayShow (tool : Tool) (plan : Option (PlanOf tool)) (input file : Input) (seen : Seen) : Type 0 where
    pub promised : IsPromised l tool (ToolAnswers tool plan input file) seen
    pub tells : ToolTells tool plan input file seen
    pub cause : seen.status ≡ status_of CannotWrite → (seen.output_stage ≡ Broken) ⊎ HasInputAtFault tool plan input file
