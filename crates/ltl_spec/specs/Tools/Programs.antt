-- What each program answers: the first refusal in the stated order, or what it prints.
use Rattle.std.specs.Prelude.{◌≡◌, ℕ, ◌<◌, ◌≤◌, Bool, true, false, if◌then◌else◌, List, ◌++◌, ◌⊎◌, length, Option, Some, None, Result, Ok, MatchResult, codes}
use Rattle.ltl_spec.specs.Semantics.Word.{Name, Lasso}
use Rattle.ltl_spec.specs.Semantics.Satisfaction.{Satisfies}
use Rattle.ltl_spec.specs.Formulas.Formula.{Reading}
use Rattle.ltl_spec.specs.Formulas.Grammar.{IsTextOf}
use Rattle.ltl_spec.specs.Formulas.Fault.{IsFault}
use Rattle.ltl_spec.specs.NormalForms.Normal.{Normal}
use Rattle.ltl_spec.specs.NormalForms.NormalForm.{core, rows, elementary_rows}
use Rattle.ltl_spec.specs.Automata.Automaton.{Automaton}
use Rattle.ltl_spec.specs.Construction.Translation.{Options, IsTranslation, IsTranslationTooLarge}
use Rattle.ltl_spec.specs.Automata.ClaimText.{never_text, line}
use Rattle.ltl_spec.specs.Automata.HoaText.{hoa_text}
use Rattle.ltl_spec.specs.Automata.Generalized.{IsTooLarge}
use Rattle.ltl_spec.specs.Automata.GeneralizedText.{IsGeneralizedTranslation, generalized_text}
use Rattle.ltl_spec.specs.Words.LassoText.{IsLassoText, IsBadWord, HasTooManyNames, lasso_text}
use Rattle.ltl_spec.specs.Tools.Limits.{Limits}
use Rattle.ltl_spec.specs.Tools.Refusal.{Refusal, Usage, LongFormula, TooManyPropositions, TooManyRows, TooManyElementaryRows, LargeAutomaton, LongWord, LargeProduct, BadFormula, BadWord, BadAutomaton, Translator, Checker, Evaluator}
use Rattle.ltl_spec.specs.Formulas.Names.{unified}
use Rattle.ltl_spec.specs.Hoa.HoaReading.{AcceptanceForm, MarkedAutomaton, HoaReadsWithin}
use Rattle.ltl_spec.specs.Hoa.HoaFault.{hoa_fault}
use Rattle.ltl_spec.specs.Checking.Check.{Verdict, Contained, Violated, IsVerdict, IsViolation, product_size}
use Rattle.ltl_spec.specs.Tools.Outcome.{Input, FormulaWord, input_of, taken, Answer, refused, printed, Then, answer_by}
use Rattle.ltl_spec.specs.Tools.Readings.{IsFormulaText, IsWordText}

module _ (l : Limits) where
  -- A formula's text reads as the formula, or is refused: its length first, then its fault, then the number of its propositions
  abbrev pub RefusesFormula : List ℕ → Refusal → Type 0
  RefusesFormula text LongFormula = l.formula_bytes < length text
  RefusesFormula text (BadFormula place kind) = (length text ≤ l.formula_bytes) × IsFault text place kind
  RefusesFormula text TooManyPropositions = (length text ≤ l.formula_bytes) × ((R : Reading) × IsTextOf text R × (l.propositions < length R.names))
  RefusesFormula text _ = ⊥

  abbrev pub ReadsFormula : List ℕ → Result Reading Refusal → Type 0
  ReadsFormula text r = MatchResult r (IsFormulaText l text) (RefusesFormula text)

  -- a normal form is kept, or has too many rows
  abbrev pub RefusesRows : Normal → Refusal → Type 0
  RefusesRows N TooManyRows = l.rows < length (rows N)
  RefusesRows N TooManyElementaryRows = (length (rows N) ≤ l.rows) × (l.elementary_rows < length (elementary_rows N))
  RefusesRows N _ = ⊥

  abbrev pub KeepsRows : Normal → Result Normal Refusal → Type 0
  KeepsRows N r =
      MatchResult r (λ M. (M ≡ N) × (length (rows N) ≤ l.rows) × (length (elementary_rows N) ≤ l.elementary_rows)) (RefusesRows N)

  -- an automaton that is too large is refused
  abbrev pub RefusesLarge : Type 0 → Refusal → Type 0
  RefusesLarge TooLarge LargeAutomaton = TooLarge
  RefusesLarge TooLarge _ = ⊥

  -- the normal form's automaton, or one on the way is too large
  abbrev pub Translates : Normal → Options → Result Automaton Refusal → Type 0
  Translates N o r = let TooLarge = IsTranslationTooLarge N o l.states l.edges in MatchResult r (λ B. IsTranslation N o B × ¬ TooLarge) (RefusesLarge TooLarge)

  -- the same for the generalized automaton
  abbrev pub TranslatesGeneralized : Normal → Options → Result Automaton Refusal → Type 0
  TranslatesGeneralized N o r = let TooLarge = IsTooLarge N o.keep_implied l.states l.edges in MatchResult r (λ A. IsGeneralizedTranslation N o A × ¬ TooLarge) (RefusesLarge TooLarge)

  -- from the formula's input to the formula
  abbrev pub InputReads : Input → Result Reading Refusal → Type 0
  InputReads input = Then (λ r. r ≡ taken l.formula_bytes input) ReadsFormula

  -- A word's text reads as the word, or is refused: its length first, then its fault, then the number of its names and the formula's
  abbrev pub RefusesWord : List Name → List ℕ → Refusal → Type 0
  RefusesWord names text LongWord = l.word_bytes < length text
  RefusesWord names text (BadWord place) = (length text ≤ l.word_bytes) × IsBadWord text place
  RefusesWord names text TooManyPropositions = (length text ≤ l.word_bytes) × ((w : Lasso) × IsLassoText text w × HasTooManyNames l.propositions names w)
  RefusesWord names text _ = ⊥

  abbrev pub ReadsWord : List Name → List ℕ → Result Lasso Refusal → Type 0
  ReadsWord names text r = MatchResult r (IsWordText l names text) (RefusesWord names text)

  -- an automaton's text reads as the automaton, or is refused for its fault
  abbrev pub RefusesHoa : AcceptanceForm → List ℕ → Refusal → Type 0
  RefusesHoa form text (BadAutomaton number kind) = hoa_fault l form text ≡ Some (record { kind = kind; line = number })
  RefusesHoa form text _ = ⊥

  abbrev pub ReadsHoa : AcceptanceForm → List ℕ → Result MarkedAutomaton Refusal → Type 0
  ReadsHoa form text r = MatchResult r (HoaReadsWithin l form text) (RefusesHoa form text)

  -- The verdict on such words, or a refusal: the number of all names first, then the size of the search
  abbrev pub RefusesCheck : MarkedAutomaton → List Name → Automaton → Refusal → Type 0
  RefusesCheck A names B TooManyPropositions = l.propositions < length (unified A.names names)
  RefusesCheck A names B LargeProduct = (length (unified A.names names) ≤ l.propositions) × (l.product < product_size A names B)
  RefusesCheck A names B _ = ⊥

  abbrev pub Judges : MarkedAutomaton → List Name → Automaton → (Lasso → Type 0) → Result Verdict Refusal → Type 0
  Judges A names B Found r =
      MatchResult r (λ v. (length (unified A.names names) ≤ l.propositions) × (product_size A names B ≤ l.product) × IsVerdict A names B Found v) (RefusesCheck A names B)

-- no option: implied transitions go, and equal states are merged
abbrev pub plain_options : Options
plain_options = record { keep_implied = false; keep_equal = false }

-- a never claim, or one of the two texts of automata
pub data Layout : Type 0 where
  Claim Hoa Generalized : Layout

-- the layout that `-H` and `-G` ask for; both together ask for none
abbrev pub layout_of : Bool → Bool → Option Layout
layout_of false false = Some Claim
layout_of true false = Some Hoa
layout_of false true = Some Generalized
layout_of true true = None

-- what the words of the translator ask for
pub record TranslatorPlan : Type 0 where
  pub formula : FormulaWord
  pub rewrite : Bool
  pub options : Options
  pub layout : Layout

-- what the words of the evaluator ask for
pub record EvaluatorPlan : Type 0 where
  pub formula : FormulaWord
  pub word : List ℕ

-- what the words of the checker ask for: the automaton's file, or else what stands in the standard input
pub record CheckerPlan : Type 0 where
  pub formula : FormulaWord
  pub automaton : Option (List ℕ)

module _ (l : Limits) where
  -- the text of a normal form's automaton; of a generalized one no levels are counted
  abbrev pub Prints : Layout → Normal → Options → Reading → Result (List ℕ) Refusal → Type 0
  Prints Claim N o R = Then (Translates l N o) (λ B r. r ≡ Ok (never_text B R))
  Prints Hoa N o R = Then (Translates l N o) (λ B r. r ≡ Ok (hoa_text B R))
  Prints Generalized N o R = Then (TranslatesGeneralized l N o) (λ A r. r ≡ Ok (generalized_text A R))

  -- the text of the formula's automaton
  abbrev pub TranslatorPrints : TranslatorPlan → Input → Result (List ℕ) Refusal → Type 0
  TranslatorPrints p input =
      Then (InputReads l (input_of p.formula input)) (λ R.
      Then (KeepsRows l (core R.formula false p.rewrite)) (λ N. Prints p.layout N p.options R))

  -- the answer of the translator, where this is what its words mean and this stands behind the name of the formula's file
  abbrev pub TranslatorAnswers : Option TranslatorPlan → Input → Answer → Type 0
  TranslatorAnswers None input a = a ≡ refused l Translator Usage
  TranslatorAnswers (Some p) input a = (r : Result (List ℕ) Refusal) × TranslatorPrints p input r × (a ≡ answer_by l Translator (λ text. printed text 0) r)

  -- whether the formula holds at the beginning of the word
  abbrev pub Evaluates : Reading → Lasso → Result Bool Refusal → Type 0
  Evaluates R w r = (r ≡ Ok true) × Satisfies R.names w 0 R.formula ⊎ (r ≡ Ok false) × ¬ (Satisfies R.names w 0 R.formula)

  abbrev pub EvaluatorFinds : EvaluatorPlan → Input → Result Bool Refusal → Type 0
  EvaluatorFinds p input =
      Then (InputReads l (input_of p.formula input)) (λ R.
      Then (ReadsWord l R.names p.word) (λ w. Evaluates R w))

  abbrev pub truth_answer : Bool → Answer
  truth_answer b = if b then printed (line (codes "true")) 0 else printed (line (codes "false")) 1

  -- the answer of the evaluator
  abbrev pub EvaluatorAnswers : Option EvaluatorPlan → Input → Answer → Type 0
  EvaluatorAnswers None input a = a ≡ refused l Evaluator Usage
  EvaluatorAnswers (Some p) input a = (r : Result Bool Refusal) × EvaluatorFinds p input r × (a ≡ answer_by l Evaluator truth_answer r)

  -- What the checker finds, with the formula's input and then the automaton's. The negated formula is rewritten and translated with no
  -- option; it is translated before the automaton is read
  abbrev pub CheckerFinds : AcceptanceForm → CheckerPlan → Input → Input → Result Verdict Refusal → Type 0
  CheckerFinds form p input automaton =
      Then (InputReads l (input_of p.formula input)) (λ R.
      Then (KeepsRows l (core R.formula true true)) (λ N.
      Then (Translates l N plain_options) (λ B.
      Then (λ r. r ≡ taken l.hoa_bytes automaton) (λ text.
      Then (ReadsHoa l form text) (λ A. Judges l A R.names B (IsViolation A R))))))

  abbrev pub verdict_answer : Verdict → Answer
  verdict_answer Contained = printed (line (codes "contained")) 0
  verdict_answer (Violated w) = printed (line (codes "violated") ++ line (lasso_text w)) 1

  -- the answers of the checker: of words that violate the formula any may be printed
  abbrev pub CheckerAnswers : AcceptanceForm → Option CheckerPlan → Input → Input → Answer → Type 0
  CheckerAnswers form None input automaton a = a ≡ refused l Checker Usage
  CheckerAnswers form (Some p) input automaton a =
      (r : Result Verdict Refusal) × CheckerFinds form p input automaton r × (a ≡ answer_by l Checker verdict_answer r)
