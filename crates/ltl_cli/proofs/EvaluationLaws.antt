-- What the evaluator knows before it prints.
use Rattle.std.proofs.Common.{◌≡◌, ap, sym, subst, refl, ℕ, ◌≤◌, Bool, true, false, inl, inr, List, [], Option, Some, None, arith}
use Rattle.std.specs.Prelude.{Ok, Err, option_map}
use Rattle.std.specs.Bool.{Decides}
use Rattle.ltl_spec.specs.Semantics.Word.{Lasso}
use Rattle.ltl_spec.specs.Semantics.Satisfaction.{Satisfies}
use Rattle.ltl_spec.specs.Formulas.Formula.{Reading}
use Rattle.ltl_spec.specs.Tools.Limits.{stated_limits}
use Rattle.ltl_spec.specs.Tools.Refusal as spec
use Rattle.ltl_spec.specs.Tools.Outcome as outcome
use Rattle.ltl_spec.specs.Tools.Outcome.{Input, Then}
use Rattle.ltl_spec.specs.Tools.Programs.{EvaluatorPlan, EvaluatorAnswers, Evaluates, InputReads, ReadsWord, truth_answer}
use Rattle.ltl_spec.proofs.Tools.StepLaws.{never}
use Rattle.ltl_spec.specs.Tools.Stage.{Open}
use Rattle.ltl_streams.specs.Streams.{SinkState}
use Rattle.ltl_syntax.specs.FormulaView.{FormulaView, reading_of}
use Rattle.ltl_word.specs.declared.fault.WordFault.{WordFault}
use Rattle.ltl_word.specs.declared.fault.WordFault.TheVariants as fault
use Rattle.ltl_word.specs.ReadText.{IsReadAs, IsRefusedFor}
use Rattle.ltl_cli.specs.declared.refusal.Refusal.{Refusal}
use Rattle.ltl_cli.specs.declared.refusal.Refusal.TheVariants.{OutOfMemory, Usage}
use Rattle.ltl_words.specs.declared.request.Plan.{Plan}
use Rattle.ltl_words.specs.declared.request.PlanFault.TheVariants as plan
use Rattle.ltl_cli.specs.Refusals.{of_word}
use Rattle.ltl_words.specs.Plans.{formula_word, planned, request_in}
use Rattle.ltl_words.specs.Words.{evaluator_plan}
use Rattle.ltl_cli.specs.Inputs.{RefusesFor, RefusesInput}
use Rattle.ltl_cli.specs.Runs.{IsOutcome, formula_asked}
use Rattle.ltl_cli.specs.Evaluations.{FindsTruth}
use Rattle.ltl_cli.proofs.InputLaws.{reads_takes}
use Rattle.ltl_cli.proofs.RunLaws.{DecidesAnswers, input_refused, input_takes, nothing_asked, then_takes}

-- ---- the steps

-- the formula was refused
pub formula_refused : (p : Plan) (text : List ℕ) (input : Input) (e : Refusal) → RefusesInput (formula_word p.formula) input e → RefusesFor (formula_word p.formula) input (FindsTruth p text input) e
formula_refused p text input = input_refused (formula_word p.formula) input (λ R. Then (ReadsWord stated_limits R.names text) (λ w. Evaluates stated_limits R w))

module _ (p : Plan) (text : List ℕ) (input : Input) (f : FormulaView) (reads : InputReads stated_limits (outcome.input_of (formula_word p.formula) input) (Ok (reading_of f))) where
  abbrev Refuses : Refusal → Type 0
  Refuses = RefusesFor (formula_word p.formula) input (FindsTruth p text input)

  -- memory was refused behind the formula
  pub short_evaluation : (e : Refusal) → e ≡ OutOfMemory → Refuses e
  short_evaluation e h = inl (h, reads_takes (formula_word p.formula) input (reading_of f) reads)

  -- the word was refused
  pub word_refused : (e : Refusal) (w : WordFault) → e ≡ of_word w → IsRefusedFor f.names text w → Refuses e
  word_refused e fault.TooLong q h = subst Refuses (sym q) (inr (inr (reading_of f, reads, inl (spec.LongWord, h, refl))))
  word_refused e (fault.BadWord place) q h = subst Refuses (sym q) (inr (inr (reading_of f, reads, inl (spec.BadWord place, h, refl))))
  word_refused e fault.TooManyPropositions q h = subst Refuses (sym q) (inr (inr (reading_of f, reads, inl (spec.TooManyPropositions, h, refl))))
  word_refused e fault.OutOfMemory q h = short_evaluation e q

  -- it was decided
  pub found : (w : Lasso) (truth : Bool) → IsReadAs f.names text w → Decides truth (Satisfies f.names w 0 (reading_of f).formula)
      → FindsTruth p text input (Ok truth)
  found w truth h d = inr (reading_of f, reads, inr (w, h, decided truth d))
    where
      decided : (b : Bool) → Decides b (Satisfies f.names w 0 (reading_of f).formula) → Evaluates stated_limits (reading_of f) w (Ok b)
      decided true d = inl (refl, d.0 refl)
      decided false d = inr (refl, λ s. absurd (false_true (d.1 s)))
        where
          false_true : false ≡ true → ⊥
          false_true q = cc

-- ---- what was found decides the answers

word_takes : (R : Reading) (w : Lasso) → Evaluates stated_limits R w (Err spec.OutOfMemory) → ⊥
word_takes R w (inl (q, h)) = cc
word_takes R w (inr (q, h)) = cc

-- a plan with this word, in the words of the definitions
word_planned : (p : Plan) (word : Option (List ℕ)) → option_map (λ s. s.now) p.word ≡ word → planned spec.Evaluator (Ok p) ≡ evaluator_plan (record (request_in p) { word = word })
word_planned p word same = ap (λ (w : Option (List ℕ)). evaluator_plan (record (request_in p) { word = w })) same

pub evaluator_decides : (p : Plan) (text : List ℕ) (input file : Input) → option_map (λ s. s.now) p.word ≡ Some text → DecidesAnswers (outcome.IsNeverShort stated_limits.formula_bytes (Some (formula_word p.formula)) input) spec.Evaluator p input file (FindsTruth p text input) (truth_answer stated_limits)
evaluator_decides p text input file same = record {
  right = λ r h. subst (λ (w : Option EvaluatorPlan). EvaluatorAnswers stated_limits w input (outcome.answer_by stated_limits spec.Evaluator (truth_answer stated_limits) r)) (sym (word_planned p (Some text) same)) (r, h, refl);
  takes = subst (λ (w : Option EvaluatorPlan). outcome.IsNeverShort stated_limits.formula_bytes (option_map (formula_asked spec.Evaluator) w) input) (word_planned p (Some text) same);
  other = then_takes (InputReads stated_limits (outcome.input_of (formula_word p.formula) input)) (λ R. Then (ReadsWord stated_limits R.names text) (λ w. Evaluates stated_limits R w)) (input_takes (outcome.input_of (formula_word p.formula) input))
      (λ R. then_takes (ReadsWord stated_limits R.names text) (λ w. Evaluates stated_limits R w) (λ z. z) (word_takes R));
  silent = silent;
  low = low;
}
  where
    silent : (b : Bool) → (truth_answer stated_limits b).message ≡ []
    silent true = refl
    silent false = refl

    low : (b : Bool) → (truth_answer stated_limits b).status ≤ 1
    low true = omega arith
    low false = omega arith

-- there is no word
pub no_word : (p : Plan) (input file : Input) (o : SinkState) → o.stage ≡ Open → option_map (λ s. s.now) p.word ≡ None → IsOutcome spec.Evaluator (Ok p) input file o o (Err Usage)
no_word p input file o open_before same = nothing_asked spec.Evaluator (Ok p) input file o open_before (word_planned p None same) (λ q. never p plan.OutOfMemory (sym q))
